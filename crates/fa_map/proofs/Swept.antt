-- Entries that are changed one after the other.
use Rattle.std.proofs.Common.{◌≡◌, ℕ, ◌+◌, ◌*◌, ◌-◌, ◌<◌, ◌≤◌, ◌==◌, ◌&&◌, nat_le, nat_lt, if◌then◌else◌, Bool, true, false, List, Option, Some, length, set, ap, cond, inl, inr, refl, sym, subst, ◌∙◌, arith}
use Rattle.std.proofs.lemmas.Bool.{and_from, and_left, and_right, cases_eq, cases_lt, cases_order, cond-true, eq-eqb, le-leb, le-ltb, lt-ltb, ne_eqb}
use Rattle.fa_map.specs.Chains.{IsNext, entry_of}
use Rattle.fa_map.specs.Entries.{retired, swept}
use Rattle.fa_map.specs.declared.entries.Entry.{Entry}
use Rattle.fa_map.specs.declared.entries.Entry.TheVariants.{Erased, Reserved, Current, Stale}
use Rattle.fa_map.proofs.Chained.{place_or_none}
use Rattle.fa_map_calls.proofs.Changed.{place_cases}
use Rattle.fa_map.proofs.Counted.{dies_from}
use Rattle.fa_map.proofs.Tabled.{bare_entry}
use Rattle.fa_map.proofs.Tallied.{entry_same, entry_other}

pub with_true : (b : Bool) → (b && true) ≡ b
with_true true = refl
with_true false = refl

pub retired_other : (page : ℕ) (e : Entry) → (e ≡ Current page → ⊥) → retired page e ≡ e
retired_other page Erased off = refl
retired_other page Reserved off = refl
retired_other page Stale off = refl
retired_other page (Current p) off = ap (λ (b : Bool). cond b Stale (Current p)) (ne_eqb p page (λ is. off (ap Current is)))

pub retired_one : (page : ℕ) → retired page (Current page) ≡ Stale
retired_one page = ap (λ (b : Bool). cond b Stale (Current page)) (eq-eqb page page refl)

module _ (e0 e1 : List Entry) (n : ℕ) where
  -- a slot after those before it were changed
  pub sweep_step : (change : Entry → Entry) (die from slot : ℕ) → from ≤ slot → slot < n → die * n + slot < length e1
      → ((d s : ℕ) → s < n → entry_of e1 n d s ≡ swept change die from slot d s (entry_of e0 n d s))
      → (e2 : List Entry) → e2 ≡ set e1 (die * n + slot) (change (entry_of e1 n die slot))
      → (d s : ℕ) → s < n → entry_of e2 n d s ≡ swept change die from (slot + 1) d s (entry_of e0 n d s)
  sweep_step change die from slot low inside fits so_far e2 is d s within =
      ap (λ l. entry_of l n d s) is
      ∙ elim (place_cases d s die slot) [
        | inl at ↦
            entry_same e1 n die slot d s (change (entry_of e1 n die slot)) fits at.0 at.1
            ∙ ap change (so_far die slot inside ∙ ap (λ (b : Bool). if b then change (entry_of e0 n die slot) else entry_of e0 n die slot)
            (and_right (die == die) (nat_le from slot && nat_lt slot slot) (and_right (nat_le from slot) (nat_lt slot slot) (le-ltb slot slot (omega arith)))))
            ∙ (λ i. change (entry_of e0 n (sym at.0 i) (sym at.1 i)))
            ∙ sym (cond-true (d == die && (nat_le from s && nat_lt s (slot + 1))) (change (entry_of e0 n d s)) (entry_of e0 n d s)
            (and_from (d == die) (nat_le from s && nat_lt s (slot + 1)) (eq-eqb d die at.0)
            (let same = at.1 in and_from (nat_le from s) (nat_lt s (slot + 1)) (le-leb from s (omega (arith, same, low))) (lt-ltb s (slot + 1) (omega (arith, same))))))
        | inr apart ↦
            entry_other e1 n die slot d s (change (entry_of e1 n die slot)) inside within apart ∙ so_far d s within
            ∙ ap (λ (b : Bool). if b then change (entry_of e0 n d s) else entry_of e0 n d s) (more d s apart)
      ]
    where
      more : (d s : ℕ) → (d ≡ die → s ≡ slot → ⊥) → (d == die && (nat_le from s && nat_lt s slot)) ≡ (d == die && (nat_le from s && nat_lt s (slot + 1)))
      more d s apart =
          elim (cases_eq d die) [
            | inr off ↦ and_left (d == die) (nat_le from s && nat_lt s slot) (ne_eqb d die off) ∙ sym (and_left (d == die) (nat_le from s && nat_lt s (slot + 1)) (ne_eqb d die off))
            | inl on ↦
                let off : s ≡ slot → ⊥ = apart on in
                ap (λ (b : Bool). d == die && (nat_le from s && b)) (elim (cases_lt s slot) [
                  | inl less ↦ lt-ltb s slot less ∙ sym (lt-ltb s (slot + 1) (omega arith))
                  | inr past ↦ le-ltb s slot past ∙ sym (le-ltb s (slot + 1) (omega (arith, past, off)))
                ])
          ]

-- a copy of a page that is made stale
module _ (entries : List Entry) (n dies page die slot : ℕ) (fits : die * n + slot < length entries) (within : slot < n)
    (held : entry_of entries n die slot ≡ Current page) where
  abbrev left : List Entry
  left = set entries (die * n + slot) Stale

  pub retired_alike : (d s : ℕ) → s < n → retired page (entry_of left n d s) ≡ retired page (entry_of entries n d s)
  retired_alike d s inside =
      elim (place_cases d s die slot) [
        | inl at ↦
            ap (retired page) (entry_same entries n die slot d s Stale fits at.0 at.1)
            ∙ sym (retired_one page) ∙ ap (retired page) (sym held) ∙ (λ i. retired page (entry_of entries n (sym at.0 i) (sym at.1 i)))
        | inr apart ↦ ap (retired page) (entry_other entries n die slot d s Stale within inside apart)
      ]

  -- fewer dies are left from the page's first copy on
  pub fewer_left : (first : Option (ℕ × ℕ)) → IsNext (entry_of entries n) n dies page 0 (Some (die, slot)) → IsNext (entry_of left n) n dies page 0 first
      → ((other : ℕ) → other < n → entry_of entries n die other ≡ Current page → other ≡ slot) → dies_from dies first < dies - die
  fewer_left first was is once =
      let here = was.found die slot refl in
      elim (place_or_none first) [
        | inl none ↦ subst (λ k. k < dies - die) (sym (ap (dies_from dies) none)) (omega (arith, here.1))
        | inr some ↦
            let next = is.found some.0 some.1 some.2 in
            let later = behind some.0 some.1 next.2 next.3 in
            subst (λ k. k < dies - die) (sym (ap (dies_from dies) some.2)) (omega (arith, next.1, later))
      ]
    where
      behind : (d s : ℕ) → s < n → entry_of left n d s ≡ Current page → die < d
      behind d s inside now =
          elim (place_cases d s die slot) [
            | inl at ↦ absurd (bare_entry Stale page refl (sym (entry_same entries n die slot d s Stale fits at.0 at.1) ∙ now))
            | inr apart ↦
                let old = sym (entry_other entries n die slot d s Stale within inside apart) ∙ now in
                elim (cases_order d die) [
                  | inl same ↦ absurd (apart same (once s inside ((λ i. entry_of entries n (sym same i) s) ∙ old)))
                  | inr other ↦ elim other [
                    | inl less ↦ absurd (was.between d s (omega arith) inside (lt-ltb d die less) old)
                    | inr more ↦ more
                  ]
                ]
          ]
