-- A write serves, from its beginning to its end.
use Rattle.fa_solo_laws.proofs.Going.{Laws, goes_first}
use Rattle.fa_solo_laws.proofs.Gone.{gone_lost}
use Rattle.fa_solo_laws.proofs.PutBytes.{with_none}
use Rattle.fa_solo_laws.proofs.RangePages.{IsInside, IsOf, of_back, of_front, upto, upto_first, upto_past}
use Rattle.fa_solo_laws.proofs.ReadStages.{Fits}
use Rattle.fa_solo_laws.proofs.WriteWorlds.{Wrote}
use Rattle.fa_solo_laws.specs.Begun.{IsCalm}
use Rattle.fa_solo_laws.specs.Shown.{store_of}
use Rattle.fa_laws.specs.Reached.{IsReached}
use Rattle.fa_machine.specs.World.{World}
use Rattle.fa_shared_steps.specs.Ranges.{covers, first_page, past_page}
use Rattle.fa_shared_steps.specs.declared.range.Range.{Range}
use Rattle.fa_types.specs.Plain.{export}
use Rattle.fa_types.specs.Store.{IsCovered, IsMet, IsUnwritten, IsWritten, with_bytes}
use Rattle.std.proofs.Common.{List, [], ap, arith, inl, inr, length, refl, subst, suc, sym, take, true, ℕ, ◌*◌, ◌+◌, ◌-◌, ◌/◌, ◌<◌, ◌∙◌, ◌≡◌, ◌≤◌}
use Rattle.std.proofs.Common.{eq-eqb, cond}
use Rattle.std.proofs.Math.Nat.{div-mul-le_self, lt-div-mul-add, mul-le-mul_right, suc-mul}
use Rattle.std.proofs.lemmas.Bool.{and_parts, cases_eq, cases_lt, leb-true}
use Rattle.std.proofs.lemmas.List.{length-take-le, nil_from_length, take_all}
use Rattle.std.specs.Prelude.{slice_index}

module _ (r : Range) (first : World) (f : Fits first r) (all : List ℕ) (long : length all ≡ r.to - r.from) where
  abbrev Done : ℕ → World → Type 0
  Done = Wrote r first all

  here : IsInside first.core.page_map.geometry.pages r
  here = f.inside

  count : (page : ℕ) → length (take (upto r page) all) ≡ upto r page
  count page = length-take-le (upto r page) all (omega (arith, long))

  -- a page of which each byte is written
  covered : (page p : ℕ) → p < page → covers r p ≡ true → IsCovered first.core.page_map.geometry.page_bytes r.from (length (take (upto r page) all)) p
  covered page p low whole i of_page =
      let size : ℕ = r.page_bytes in
      let some : 0 < size = let n = here.some_bytes in omega (arith, n) in
      let same : i / size ≡ p = ap (λ n. i / n) f.same ∙ of_page in
      let down : p * size ≤ i = subst (λ n. n * size ≤ i) same (div-mul-le_self i size) in
      let up : i < p * size + size = subst (λ n. i < n * size + size) same (lt-div-mul-add some) in
      let parts = and_parts _ _ whole in
      let front = leb-true r.from (p * size) parts.0 in
      let back = leb-true (p * size + size) r.to parts.1 in
      let further : suc p * size ≤ page * size = mul-le-mul_right size low in
      let next = suc-mul p size in
      let so_many = count page in
      (omega (arith, down, front), omega (arith, up, back, further, next, so_many))

  met : (page p : ℕ) → IsMet first.core.page_map.geometry.page_bytes r.from (length (take (upto r page) all)) p → IsOf r p × (p < page)
  met page p m =
      let size : ℕ = r.page_bytes in
      let some : 0 < size = let n = here.some_bytes in omega (arith, n) in
      let same : m.0 / size ≡ p = ap (λ n. m.0 / n) f.same ∙ m.1 in
      let down : p * size ≤ m.0 = subst (λ n. n * size ≤ m.0) same (div-mul-le_self m.0 size) in
      let up : m.0 < p * size + size = subst (λ n. m.0 < n * size + size) same (lt-div-mul-add some) in
      let from = m.2.0 in let to = m.2.1 in let so_many = count page in (
        record { begins = omega (arith, down, from, to, so_many); ends = omega (arith, up, from); some = omega (arith, from, to, so_many) },
        elim (cases_lt p page) [
          | inl low ↦ low
          | inr high ↦ absurd (let further : page * size ≤ p * size = mul-le-mul_right size high in omega (arith, further, down, from, to, so_many))
        ],
      )

  -- what is written so far is the beginning of the bytes
  pub wrote_is : (page : ℕ) (w : World) → Done page w → IsWritten (store_of first) (store_of w) r.from (take (upto r page) all)
  wrote_is page w k = record {
    content = λ i low lost. ap (λ bytes. slice_index bytes i) k.plain;
    lost = λ p was. elim (k.gone p was) [
      | inl written ↦ inr (covered page p written.1 written.2)
      | inr gone ↦ inl (gone_lost p w.core gone)
    ];
    whole = λ p was m. let of_range = met page p m in covered page p of_range.1 (k.whole p was of_range.0 of_range.1);
  }

  pub wrote_all : (w : World) → Done (past_page r) w → IsWritten (store_of first) (store_of w) r.from all
  wrote_all w k =
      subst (IsWritten (store_of first) (store_of w) r.from)
      (ap (λ n. take n all) (upto_past first.core.page_map.geometry.pages r here (past_page r) (omega arith)) ∙ take_all (r.to - r.from) all (omega (arith, long)))
      (wrote_is (past_page r) w k)

  -- of no bytes none are written
  pub wrote_none : (page : ℕ) (w : World) → Done page w → r.from ≡ r.to → IsUnwritten (store_of first) (store_of w)
  wrote_none page w k empty =
      let none : take (upto r page) all ≡ [] = nil_from_length (take (upto r page) all) (let so_many = count page in omega (arith, so_many, empty)) in
      record {
        content = λ i low lost. ap (λ bytes. slice_index bytes i) (k.plain ∙ ap (λ bytes. with_bytes r.from bytes (export first.plain)) none ∙ with_none r.from (export first.plain));
        lost = λ p was. elim (k.gone p was) [
          | inl written ↦ absurd (let some = written.0.some in omega (arith, some, empty))
          | inr gone ↦ gone_lost p w.core gone
        ];
      }

  -- the first page is no page behind the last
  pub first_past : first_page r ≤ past_page r
  first_past =
      let size : ℕ = r.page_bytes in
      let some : 0 < size = let n = here.some_bytes in omega (arith, n) in
      elim (cases_eq r.from r.to) [
        | inl same ↦ subst (λ b. r.from / size ≤ cond b (r.from / size) ((r.to - 1) / size + 1)) (sym (eq-eqb r.from r.to same)) (omega arith)
        | inr apart ↦
            let order = here.ordered in
            let down : r.from / size * size ≤ r.from = div-mul-le_self r.from size in
            let up : r.from < r.from / size * size + size = lt-div-mul-add some in
            let low = of_back first.core.page_map.geometry.pages r here (first_page r)
            (record { begins = omega (arith, down, order, apart); ends = up; some = omega (arith, order, apart) }) in omega (arith, low)
      ]

  pub begins : Laws → IsReached first → IsCalm first → Done (first_page r) first
  begins laws reached calm =
      let goes = goes_first laws first reached calm in
      record {
        reached = reached;
        geometry = refl;
        sized = f.sized;
        plain = sym (ap (λ n. with_bytes r.from (take n all) (export first.plain)) (upto_first first.core.page_map.geometry.pages r here)
            ∙ with_none r.from (export first.plain));
        gone = λ p lost. inr (goes.gone p lost);
        whole = λ p lost of_range low. absurd (let from = of_front first.core.page_map.geometry.pages r here p of_range in omega (arith, from, low));
      }
