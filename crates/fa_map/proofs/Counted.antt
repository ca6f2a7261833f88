-- How many dies hold a page, counted along its chain.
use Rattle.std.proofs.Common.{◌≡◌, ℕ, suc, ◌+◌, ◌-◌, ◌<◌, ◌≤◌, ◌==◌, Bool, true, false, List, Option, Some, None, ap, inl, inr, refl, sym, subst, ◌∙◌, arith}
use Rattle.std.proofs.lemmas.Bool.{cases_Bool, eq-eqb, eqb-true}
use Rattle.std.specs.List.{count_by, range_with_len}
use Rattle.std.specs.Prelude.{is_some}
use Rattle.fa_map.specs.Chains.{IsNext, entry_of}
use Rattle.fa_map.specs.Entries.{die_holds, is_copy_of}
use Rattle.fa_map.specs.declared.entries.Entry.{Entry}
use Rattle.fa_map.specs.declared.entries.Entry.TheVariants.{Erased, Reserved, Current, Stale}
use Rattle.fa_map.proofs.Chained.{before_none, before_some, place_or_none}
use Rattle.fa_map_calls.proofs.Ranges.{bit, count_cons, count_past, find_none, found_some}

pub no_copy : (page : ℕ) (e : Entry) → (e ≡ Current page → ⊥) → is_copy_of page e ≡ false
no_copy page Erased off = refl
no_copy page Reserved off = refl
no_copy page Stale off = refl
no_copy page (Current p) off =
    elim (cases_Bool (p == page)) [
      | inl on ↦ absurd (off (ap Current (eqb-true p page on)))
      | inr fails ↦ fails
    ]

-- how many of the dies from a place of a chain on hold the page
abbrev pub count_from : (ℕ → Bool) → ℕ → Option (ℕ × ℕ) → ℕ
count_from holds dies None = 0
count_from holds dies (Some place) = count_by holds (range_with_len place.0 (dies - place.0))

-- how many dies there are from a place on
abbrev pub dies_from : ℕ → Option (ℕ × ℕ) → ℕ
dies_from dies None = 0
dies_from dies (Some place) = dies - place.0

-- fewer dies are left from the next place of a chain on
pub fewer : (entries : ℕ → ℕ → Entry) (n dies page die : ℕ) (next : Option (ℕ × ℕ)) → IsNext entries n dies page (die + 1) next → die < dies
    → dies_from dies next < dies - die
fewer entries n dies page die next follows low =
    elim (place_or_none next) [
      | inl none ↦ subst (λ k. k < dies - die) (sym (ap (dies_from dies) none)) (omega (arith, low))
      | inr some ↦
          let old = follows.found some.0 some.1 some.2 in
          subst (λ k. k < dies - die) (sym (ap (dies_from dies) some.2)) (omega (arith, old.0, old.1))
    ]

module _ (entries : List Entry) (n page : ℕ) where
  pub bare : (die : ℕ) → ((slot : ℕ) → slot < n → entry_of entries n die slot ≡ Current page → ⊥) → die_holds entries n page die ≡ false
  bare die off =
      ap is_some (find_none (λ slot. is_copy_of page (entry_of entries n die slot)) 0 n
      (λ slot low high. no_copy page (entry_of entries n die slot) (off slot (omega (arith, high)))))

  pub holds : (die slot : ℕ) → slot < n → entry_of entries n die slot ≡ Current page → die_holds entries n page die ≡ true
  holds die slot within is =
      found_some (λ s. is_copy_of page (entry_of entries n die s)) 0 n slot (omega arith) (omega arith)
      (ap (is_copy_of page) is ∙ eq-eqb page page refl)

  -- of the dies from one on those hold the page that come from the next place on
  pub counted_next : (dies from : ℕ) (next : Option (ℕ × ℕ)) → IsNext (entry_of entries n) n dies page from next → from ≤ dies
      → count_by (die_holds entries n page) (range_with_len from (dies - from)) ≡ count_from (die_holds entries n page) dies next
  counted_next dies from next follows low =
      let test = die_holds entries n page in
      elim (place_or_none next) [
        | inl none ↦
            let all : dies - from ≡ dies - from + 0 = omega arith in
            ap (λ (k : ℕ). count_by test (range_with_len from k)) all
            ∙ count_past test from (dies - from) 0
            (λ k first last. bare k (λ slot within is. follows.between k slot first within (before_none k next none) is))
            ∙ sym (ap (count_from test dies) none)
        | inr some ↦
            let old = follows.found some.0 some.1 some.2 in
            let all : dies - from ≡ some.0 - from + (dies - some.0) = omega (arith, low, old.0, old.1) in
            let there : from + (some.0 - from) ≡ some.0 = omega (arith, old.0) in
            ap (λ (k : ℕ). count_by test (range_with_len from k)) all
            ∙ count_past test from (some.0 - from) (dies - some.0)
            (λ k first last. bare k (λ slot within is.
            follows.between k slot first within (before_some k some.0 some.1 next some.2 (omega (arith, first, last, there))) is))
            ∙ ap (λ (k : ℕ). count_by test (range_with_len k (dies - some.0))) there
            ∙ sym (ap (count_from test dies) some.2)
      ]

  -- a place that holds the page is one, and those behind it are the others
  pub counted_here : (dies die slot : ℕ) → die < dies → slot < n → entry_of entries n die slot ≡ Current page
      → (next : Option (ℕ × ℕ)) → IsNext (entry_of entries n) n dies page (die + 1) next
      → count_from (die_holds entries n page) dies (Some (die, slot)) ≡ 1 + count_from (die_holds entries n page) dies next
  counted_here dies die slot low within is next follows =
      let test = die_holds entries n page in
      let more : dies - die ≡ suc (dies - (die + 1)) = omega (arith, low) in
      let longer = ap (λ (k : ℕ). count_by test (range_with_len die k)) more in
      let first = count_cons test die (dies - (die + 1)) in
      let one = ap bit (holds die slot within is) in
      let rest = counted_next dies (die + 1) next follows (omega (arith, low)) in
      longer ∙ omega (arith, first, one, rest)
