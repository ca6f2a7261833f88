-- The pages of a range one after the other, and the bytes of the plain array that they have together.
use Rattle.fa_solo_laws.proofs.PlainBytes.{bytes_on, page_at}
use Rattle.fa_shared_steps.specs.Ranges.{begins_at, bytes_in, first_page, part_of, past_page}
use Rattle.fa_shared_steps.specs.declared.range.Range.{Range}
use Rattle.fa_types.specs.Plain.{HasPages, export}
use Rattle.fa_types.specs.Store.{IsMet, bytes_at}
use Rattle.std.proofs.Common.{List, [], ap, arith, cond, eq-eqb, inl, inr, length, map, subst, suc, sym, zero, ℕ, ◌*◌, ◌+◌, ◌++◌}
use Rattle.std.proofs.Common.{◌-◌, ◌/◌, ◌<◌, ◌∙◌, ◌≡◌, ◌≤◌, ◌⊎◌}
use Rattle.std.proofs.Math.Nat.{div-lt_iff_lt-mul, div-mul-le_self, le-div_iff_mul-le, lt-div-mul-add, mul-le-mul_right, suc-mul}
use Rattle.std.proofs.lemmas.Bool.{cases_eq, cases_lt, ne_eqb}
use Rattle.std.proofs.lemmas.List.{append-nil, append_assoc}
use Rattle.std.proofs.lemmas.Nat.{div-mul-add}
use Rattle.std.specs.List.{flat_map, range_with_len}
use Rattle.std.specs.Prelude.{min, slice_index_or, ◌==◌}

-- A range with its pages in an array of so many: a page has a byte or more.
pub record IsInside (pages : ℕ) (r : Range) : Type 0 where
  pub some_bytes : 1 ≤ r.page_bytes
  pub ordered : r.from ≤ r.to
  pub inside : r.to ≤ pages * r.page_bytes

-- a page with a byte of the range
pub record IsOf (r : Range) (page : ℕ) : Type 0 where
  pub begins : page * r.page_bytes < r.to
  pub ends : r.from < page * r.page_bytes + r.page_bytes
  pub some : r.from < r.to

-- so many bytes of the range stand before a page
abbrev pub upto : Range → ℕ → ℕ
upto r page = min (page * r.page_bytes) r.to - r.from

past_of : (from to page x y : ℕ) → page < cond (from == to) x y → ((from ≡ to) × (page < x)) ⊎ ((from ≡ to → ⊥) × (page < y))
past_of from to page x y low =
    elim (cases_eq from to) [
      | inl same ↦ inl (same, subst (λ b. page < cond b x y) (eq-eqb from to same) low)
      | inr apart ↦ inr (apart, subst (λ b. page < cond b x y) (ne_eqb from to apart) low)
    ]

module _ (pages : ℕ) (r : Range) (h : IsInside pages r) where
  -- the pages from the first to before the one behind the last have a byte of the range
  pub page_of : (page : ℕ) → first_page r ≤ page → page < past_page r → IsOf r page
  page_of page first low =
      let size : ℕ = r.page_bytes in
      let some : 0 < size = let n = h.some_bytes in omega (arith, n) in
      let ends : r.from < page * size + size =
      let front : r.from < r.from / size * size + size = lt-div-mul-add some in
      let up : r.from / size * size ≤ page * size = mul-le-mul_right size first in omega (arith, front, up) in
      elim (past_of r.from r.to page (r.from / size) ((r.to - 1) / size + 1) low) [
        | inl none ↦ absurd (let below = none.1 in omega (arith, below, first))
        | inr past ↦ record {
          begins = (
              let order = h.ordered in
              let apart = past.0 in
              let below = past.1 in
              let up : page * size ≤ (r.to - 1) / size * size = mul-le-mul_right size (let low : page ≤ (r.to - 1) / size = omega (arith, below) in low) in
              let back : (r.to - 1) / size * size ≤ r.to - 1 = div-mul-le_self (r.to - 1) size in omega (arith, order, apart, up, back)
              );
          ends = ends;
          some = let order = h.ordered in let apart = past.0 in omega (arith, order, apart);
        }
      ]

  pub of_front : (page : ℕ) → IsOf r page → first_page r ≤ page
  of_front page of_range =
      let size : ℕ = r.page_bytes in
      let some : 0 < size = let n = h.some_bytes in omega (arith, n) in
      let ends = of_range.ends in
      let low : r.from < suc page * size = let next = suc-mul page size in omega (arith, ends, next) in
      let below : r.from / size < suc page = (div-lt_iff_lt-mul some).1 low in omega (arith, below)

  pub of_back : (page : ℕ) → IsOf r page → page < past_page r
  of_back page of_range =
      let size : ℕ = r.page_bytes in
      let some : 0 < size = let n = h.some_bytes in omega (arith, n) in
      let begins = of_range.begins in
      let high : page * size ≤ r.to - 1 = omega (arith, begins) in
      let below : page ≤ (r.to - 1) / size = (le-div_iff_mul-le some).1 high in
      let apart : r.from ≡ r.to → ⊥ = λ same. let less = of_range.some in absurd (omega (arith, same, less)) in
      subst (λ b. page < cond b (r.from / size) ((r.to - 1) / size + 1)) (sym (ne_eqb r.from r.to apart)) (let low : page < (r.to - 1) / size + 1 = omega (arith, below) in low)

  -- a page of the range is one of the array
  pub page_low : (page : ℕ) → IsOf r page → page < pages
  page_low page of_range =
      elim (cases_lt page pages) [
        | inl low ↦ low
        | inr high ↦ absurd (
            let up : pages * r.page_bytes ≤ page * r.page_bytes = mul-le-mul_right r.page_bytes high in
            let begins = of_range.begins in let inside = h.inside in omega (arith, up, begins, inside)
            )
      ]

  -- some byte of such a page is in the range
  pub page_met : (page : ℕ) → IsOf r page → IsMet r.page_bytes r.from (r.to - r.from) page
  page_met page of_range =
      let size : ℕ = r.page_bytes in let some = h.some_bytes in let begins = of_range.begins in let ends = of_range.ends in let order = of_range.some in
      let at : ℕ = r.from - page * size in
      let low : at < size = omega (arith, ends, some) in
      (page * size + at, div-mul-add page size at low, (omega arith, omega (arith, begins, order)))

  -- a page with a byte of the range is one of its pages
  pub met_page : (page : ℕ) → IsMet r.page_bytes r.from (r.to - r.from) page → IsOf r page
  met_page page met =
      let size : ℕ = r.page_bytes in
      let some : 0 < size = let n = h.some_bytes in omega (arith, n) in
      let down : page * size ≤ met.0 = subst (λ p. p * size ≤ met.0) met.1 (div-mul-le_self met.0 size) in
      let up : met.0 < page * size + size = subst (λ p. met.0 < p * size + size) met.1 (lt-div-mul-add some) in
      let from = met.2.0 in let to = met.2.1 in record { begins = omega (arith, down, to, from); ends = omega (arith, up, from); some = omega (arith, from, to) }

  -- the bytes of the range before a page, and those that the page has
  pub part_begins : (page : ℕ) → IsOf r page → r.from + upto r page ≡ page * r.page_bytes + begins_at r page
  part_begins page of_range = let begins = of_range.begins in let order = h.ordered in omega (arith, begins, order)

  pub part_ends : (page : ℕ) → IsOf r page → upto r (page + 1) ≡ upto r page + bytes_in r page
  part_ends page of_range =
      let begins = of_range.begins in let ends = of_range.ends in let order = h.ordered in
      let next : (page + 1) * r.page_bytes ≡ page * r.page_bytes + r.page_bytes = ap (λ n. n * r.page_bytes) (let one : page + 1 ≡ suc page = omega arith in one) ∙ suc-mul page r.page_bytes ∙ omega arith in
      omega (arith, begins, ends, order, next)

  pub part_fits : (page : ℕ) → IsOf r page → begins_at r page + bytes_in r page ≤ r.page_bytes
  part_fits page of_range = let ends = of_range.ends in omega (arith, ends)

  module _ (plain : List (List ℕ)) (sized : HasPages r.page_bytes plain) (many : length plain ≡ pages) where
    abbrev pub page_in : ℕ → List ℕ
    page_in page = slice_index_or plain page []

    -- the part of a page is what stands there
    pub part_is : (page : ℕ) → IsOf r page → part_of r page (page_in page) ≡ bytes_at (r.from + upto r page) (bytes_in r page) (export plain)
    part_is page of_range =
        sym (ap (λ at. bytes_at at (bytes_in r page) (export plain)) (part_begins page of_range)
        ∙ page_at r.page_bytes plain sized page (begins_at r page) (bytes_in r page) (let low = page_low page of_range in omega (arith, low, many))
        (part_fits page of_range))

    -- the parts of some pages one after the other
    pub parts_are : (page n : ℕ) → ((p : ℕ) → page ≤ p → p < page + n → IsOf r p)
        → bytes_at r.from (upto r page) (export plain) ++ flat_map (λ (e : ℕ × List ℕ). part_of r e.0 e.1) (map (λ p. (p, page_in p)) (range_with_len page n))
        ≡ bytes_at r.from (upto r (page + n)) (export plain)
    parts_are page zero of_range =
        append-nil (bytes_at r.from (upto r page) (export plain))
        ∙ ap (λ p. bytes_at r.from (upto r p) (export plain)) (let same : page ≡ page + 0 = omega arith in same)
    parts_are page (suc n) of_range =
        let here : IsOf r page = of_range page (omega arith) (omega arith) in
        let rest : List ℕ = flat_map (λ (e : ℕ × List ℕ). part_of r e.0 e.1) (map (λ p. (p, page_in p)) (range_with_len (page + 1) n)) in
        let front : List ℕ = bytes_at r.from (upto r page) (export plain) in
        sym (append_assoc front (part_of r page (page_in page)) rest)
        ∙ ap (λ bytes. bytes ++ rest) (ap (λ part. front ++ part) (part_is page here) ∙ bytes_on r.from (upto r page) (bytes_in r page) (export plain)
        ∙ ap (λ count. bytes_at r.from count (export plain)) (sym (part_ends page here)))
        ∙ parts_are (page + 1) n (λ p low high. of_range p (omega (arith, low)) (omega (arith, high)))
        ∙ ap (λ p. bytes_at r.from (upto r p) (export plain)) (let same : page + 1 + n ≡ page + suc n = omega arith in same)

  -- no byte of the range stands before its first page, and all stand before the page behind its last
  pub upto_first : upto r (first_page r) ≡ 0
  upto_first = let down : r.from / r.page_bytes * r.page_bytes ≤ r.from = div-mul-le_self r.from r.page_bytes in omega (arith, down)

  pub upto_past : (page : ℕ) → past_page r ≤ page → upto r page ≡ r.to - r.from
  upto_past page high =
      let size : ℕ = r.page_bytes in
      let some : 0 < size = let n = h.some_bytes in omega (arith, n) in
      let order = h.ordered in
      elim (cases_eq r.from r.to) [
        | inl same ↦ omega (arith, same)
        | inr apart ↦
            let past : (r.to - 1) / size + 1 ≤ page = subst (λ b. cond b (r.from / size) ((r.to - 1) / size + 1) ≤ page) (ne_eqb r.from r.to apart) high in
            let up : suc ((r.to - 1) / size) * size ≤ page * size = mul-le-mul_right size (let one : suc ((r.to - 1) / size) ≤ page = omega (arith, past) in one) in
            let next = suc-mul ((r.to - 1) / size) size in
            let back : r.to - 1 < (r.to - 1) / size * size + size = lt-div-mul-add some in omega (arith, order, apart, up, next, back)
      ]
