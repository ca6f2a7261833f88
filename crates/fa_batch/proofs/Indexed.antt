-- A batch and the map that gives the first entry of each page.
use Rattle.std.proofs.Common.{◌≡◌, ◌≢◌, ℕ, ◌+◌, ◌<◌, ◌≤◌, Bool, true, false, cond, Option, Some, None, is_some, IfSome, List, [], ◌∷◌, ◌++◌, length, take, nat_eq, nat_lt, nat_cmp, ◌==◌, refl, sym, ap, ◌∙◌, arith, get_or, length-append, eq-eqb, inl, inr, subst}
use Rattle.std.specs.List.{position, position_or_len, find, slice_get}
use Rattle.std.specs.Option.{option_or, option_map}
use Rattle.std.specs.BTreeMap.{BTreeMap, get, is_at}
use Rattle.std.proofs.lemmas.Bool.{lt-ltb, le-ltb, cases_lt, cases_eq, ne_eqb, cond-true, cond-false}
use Rattle.std.proofs.lemmas.List.{length-take, get_or-take, take_all, take-append-le, length_push}
use Rattle.std.proofs.lemmas.Option.{slice_get_past, slice_get_cases}
use Rattle.std.proofs.lemmas.List.Folds.{position_or_len_push, find_at, list_any_at}
use Rattle.std.proofs.lemmas.List.Quantifiers.{position-Some}
use Rattle.std.proofs.lemmas.List.Sums.{count_by_more_yes, fails_before_first, prefix_len-le-length, sum_by-take-le}
use Rattle.std.proofs.lemmas.Bool.Decides.{nat_tests}
use Rattle.fa_types.specs.declared.numbers.Die.{Die}
use Rattle.fa_batch_terms.specs.Batch.{Entry, times_named}
use Rattle.fa_batch.specs.Index.{entry_index, index_among, AreRising, IsIndexOf}
use Rattle.fa_batch_terms.proofs.Counting.{count-from-any}

module _ {X : Type 0} (p : X → Bool) where
  -- the first index that passes, and none past the end
  pub position-at : (xs : List X) → position_or_len p xs < length xs → position p xs ≡ Some (position_or_len p xs)
  position-at xs h = cond-true (nat_lt (position_or_len p xs) (length xs)) (Some (position_or_len p xs)) None (lt-ltb (position_or_len p xs) (length xs) h)

  pub position-past : (xs : List X) → length xs ≤ position_or_len p xs → position p xs ≡ None
  position-past xs h = cond-false (nat_lt (position_or_len p xs) (length xs)) (Some (position_or_len p xs)) None (le-ltb (position_or_len p xs) (length xs) h)

  -- with one more element at the end
  pub position-push : (xs : List X) (y : X) → position p (xs ++ y ∷ []) ≡ option_or (position p xs) (cond (p y) (Some (length xs)) None)
  position-push xs y =
      let place : ℕ = position_or_len p xs in
      let whole = length-append xs (y ∷ []) in
      let pushed = position_or_len_push p xs y in
      elim (cases_lt place (length xs)) [
        | inl found ↦
            (let same : position_or_len p (xs ++ y ∷ []) ≡ place = pushed ∙ cond-false (nat_eq place (length xs)) _ place (ne_eqb place (length xs) (λ e. let no : ⊥ = omega arith in no)) in
            position-at (xs ++ y ∷ []) (omega (arith, same, whole)) ∙ ap (λ n. Some n) same ∙ sym (ap (λ o. option_or o (cond (p y) (Some (length xs)) None)) (position-at xs found)))
        | inr past ↦
            (let bound : place ≤ length xs = prefix_len-le-length _ xs in
            let end : place ≡ length xs = omega arith in
            let next : position_or_len p (xs ++ y ∷ []) ≡ length xs + cond (p y) 0 1 = pushed ∙ cond-true (nat_eq place (length xs)) _ place (eq-eqb place (length xs) end) in
            let at : (b : Bool) → p y ≡ b → position p (xs ++ y ∷ []) ≡ cond b (Some (length xs)) None =
            λ b. elim b as (λ v. p y ≡ v → position p (xs ++ y ∷ []) ≡ cond v (Some (length xs)) None) [
              | true ↦ λ yes. (let n : position_or_len p (xs ++ y ∷ []) ≡ length xs = next ∙ ap (λ v. length xs + cond v 0 1) yes ∙ omega arith in
                  position-at (xs ++ y ∷ []) (omega (arith, n, whole)) ∙ ap (λ k. Some k) n)
              | false ↦ λ no. (let n : position_or_len p (xs ++ y ∷ []) ≡ length xs + 1 = next ∙ ap (λ v. length xs + cond v 0 1) no in
                  position-past (xs ++ y ∷ []) (omega (arith, n, whole)))
            ] in
            at (p y) refl ∙ sym (ap (λ o. option_or o (cond (p y) (Some (length xs)) None)) (position-past xs past)))
      ]

  -- the first element that passes stands at that index
  pub find-at : (xs : List X) (k : ℕ) → position p xs ≡ Some k → (k < length xs) × (find p xs ≡ slice_get xs k)
  find-at xs k at =
      elim (cases_lt (position_or_len p xs) (length xs)) [
        | inl found ↦ (let some = position-at xs found in let same : position_or_len p xs ≡ k = cc in (omega arith, find_at p xs ∙ ap (λ n. slice_get xs n) same))
        | inr past ↦ (let none = position-past xs past in let no : ⊥ = cc in absurd no)
      ]

  pub find-nowhere : (xs : List X) → position p xs ≡ None → find p xs ≡ None
  find-nowhere xs at =
      elim (cases_lt (position_or_len p xs) (length xs)) [
        | inl found ↦ (let some = position-at xs found in let no : ⊥ = cc in absurd no)
        | inr past ↦ find_at p xs ∙ slice_get_past xs (position_or_len p xs) past
      ]

  -- an index is the first place that passes
  pub position_is_place : (xs : List X) (k : ℕ) → position p xs ≡ Some k → position_or_len p xs ≡ k
  position_is_place xs k at =
      elim (cases_lt (position_or_len p xs) (length xs)) [
        | inl found ↦ (let some = position-at xs found in cc)
        | inr past ↦ (let none = position-past xs past in let no : ⊥ = cc in absurd no)
      ]

  -- what passes, with none before it that does
  pub position_first : (xs : List X) (k : ℕ) (d : X) → k < length xs → p (get_or xs k d) ≡ true → ((j : ℕ) → j < k → p (get_or xs j d) ≡ false) → position p xs ≡ Some k
  position_first xs k d below passes fails =
      let n : ℕ = position_or_len p xs in
      elim (cases_lt k n) [
        | inl before ↦ (let fail = fails_before_first p xs k d before in let no : ⊥ = cc in absurd no)
        | inr upto ↦ elim (cases_lt n k) [
          | inl less ↦
              (let found = position-at xs (omega arith) in
              let first : p (get_or xs n d) ≡ true = (position-Some p xs n d found).1 in
              let fail = fails n less in
              let no : ⊥ = cc in
              absurd no)
          | inr past ↦
              (let same : n ≡ k = omega arith in
              position-at xs (omega (arith, same)) ∙ ap (λ v. Some v) same)
        ]
      ]

  -- nothing that passes
  pub position_nowhere : (xs : List X) (d : X) → ((k : ℕ) → k < length xs → p (get_or xs k d) ≡ false) → position p xs ≡ None
  position_nowhere xs d fails =
      elim (cases_lt (position_or_len p xs) (length xs)) [
        | inl found ↦
            (let here : p (get_or xs (position_or_len p xs) d) ≡ true = (position-Some p xs (position_or_len p xs) d (position-at xs found)).1 in
            let fail = fails (position_or_len p xs) found in
            let no : ⊥ = cc in
            absurd no)
        | inr past ↦ position-past xs past
      ]

-- nothing is no other choice
or-nothing : {X : Type 0} (o : Option X) → option_or o None ≡ o
or-nothing None = refl
or-nothing (Some x) = refl

-- the holders of the entry at the first index of a page
pub found_at : (batch : List Entry) (page k : ℕ) (holders : List Die) → entry_index batch page ≡ Some k → IfSome (slice_get batch k) (λ e. e.holders ≡ holders)
    → Some holders ≡ option_map (λ e. e.holders) (find (λ e. e.page.0 == page) batch)
found_at batch page k holders at is =
    let there = find-at (λ (e : Entry). e.page.0 == page) batch k at in
    let same : (o : Option Entry) → is_some o ≡ true → IfSome o (λ e. e.holders ≡ holders) → Some holders ≡ option_map (λ e. e.holders) o =
    λ o. elim o as (λ v. is_some v ≡ true → IfSome v (λ e. e.holders ≡ holders) → Some holders ≡ option_map (λ e. e.holders) v) [
      | None ↦ λ no _. (let n : ⊥ = cc in absurd n)
      | Some e ↦ λ _ h. ap (λ v. Some v) (sym h)
    ] in
    let some : is_some (slice_get batch k) ≡ true =
    elim ((slice_get_cases batch k).1) [ inl f ↦ ap (λ o. is_some o) f.2 | inr p ↦ absurd (omega (arith, there.0, p.0)) ] in
    same (slice_get batch k) some is ∙ sym (ap (λ o. option_map (λ (e : Entry). e.holders) o) there.1)

-- what is something is it, whatever the other choice
or-something : {X : Type 0} (o p : Option X) → is_some o ≡ true → option_or o p ≡ o
or-something None p h = cc
or-something (Some x) p h = refl

-- nothing, whether it is something or not
cond-is_some : {X : Type 0} (o : Option X) → cond (is_some o) None o ≡ None
cond-is_some None = refl
cond-is_some (Some x) = refl

-- the index of a page among the first ones is that among all
pub among-take : (pages : List ℕ) (rising page k : ℕ) → index_among (take rising pages) page ≡ Some k → index_among pages page ≡ Some k
among-take pages rising page k at =
    let test : ℕ → Bool = λ p. p == page in
    let found = find-at test (take rising pages) k at in
    let size = length-take rising pages in
    let here : test (get_or (take rising pages) k 0) ≡ true = (position-Some test (take rising pages) k 0 at).1 in
    let place : position_or_len test (take rising pages) ≡ k = position_is_place test (take rising pages) k at in
    position_first test pages k 0 (omega (arith, found.0, size)) (ap test (sym (get_or-take rising pages k 0 (omega (arith, found.0, size)))) ∙ here)
    (λ j before. ap test (sym (get_or-take rising pages j 0 (omega (arith, found.0, size)))) ∙ fails_before_first test (take rising pages) j 0 (omega arith))

-- a page that is among the first ones is among all
some-take : (pages : List ℕ) (rising page : ℕ) → index_among pages page ≡ None → is_some (index_among (take rising pages) page) ≡ false
some-take pages rising page none =
    let at : (o : Option ℕ) → index_among (take rising pages) page ≡ o → is_some o ≡ false =
    λ o. elim o as (λ v. index_among (take rising pages) page ≡ v → is_some v ≡ false) [
      | None ↦ λ _. refl
      | Some k ↦ λ is. (let there = among-take pages rising page k is in let no : ⊥ = cc in absurd no)
    ] in
    at (index_among (take rising pages) page) refl

-- the index of a page, by a look among the first ones and then at the map
pub index-first : (pages : List ℕ) (rising : ℕ) (index : BTreeMap ℕ ℕ) (page : ℕ) → IsIndexOf pages rising index → index_among (take rising pages) page ≡ None
    → get nat_cmp index page ≡ index_among pages page
index-first pages rising index page is none = is page ∙ ap (λ o. cond (is_some o) None (index_among pages page)) none

-- the index of one of the pages that rise
pub among-rising : (pages : List ℕ) (rising k : ℕ) → AreRising (take rising pages) → k < rising → k < length pages → index_among pages (get_or pages k 0) ≡ Some k
among-rising pages rising k rise early below =
    let size = length-take rising pages in
    let same : get_or (take rising pages) k 0 ≡ get_or pages k 0 = get_or-take rising pages k 0 early in
    position_first (λ p. p == get_or pages k 0) pages k 0 below (eq-eqb (get_or pages k 0) (get_or pages k 0) refl)
    (λ j before.
    let less : get_or (take rising pages) j 0 < get_or (take rising pages) k 0 = rise j k before (omega arith) in
    let at : get_or (take rising pages) j 0 ≡ get_or pages j 0 = get_or-take rising pages j 0 (omega arith) in
    ne_eqb (get_or pages j 0) (get_or pages k 0) (λ e. let no : ⊥ = omega (arith, less, at, same, e) in no))

-- One page more, behind a prefix that rises.
module _ (pages : List ℕ) (new rising : ℕ) (index : BTreeMap ℕ ℕ) (within : rising ≤ length pages) (is : IsIndexOf pages rising index) where
  first_same : (page : ℕ) → index_among (take rising (pages ++ new ∷ [])) page ≡ index_among (take rising pages) page
  first_same page = ap (λ v. index_among v page) (take-append-le rising pages (new ∷ []) within)

  -- it is not among them, and the map has it
  pub index-push : (index' : BTreeMap ℕ ℕ) → index_among pages new ≡ None
      → ((page : ℕ) → get nat_cmp index' page ≡ cond (is_at (nat_cmp new) page) (Some (length pages)) (get nat_cmp index page))
      → IsIndexOf (pages ++ new ∷ []) rising index'
  index-push index' none put page =
      let after = position-push (λ p. nat_eq p page) pages new in
      elim (cases_eq new page) [
        | inl same ↦
            (let nowhere : index_among pages page ≡ None = subst (λ n. index_among pages n ≡ None) same none in
            let at : is_at (nat_cmp new) page ≡ true = subst (λ n. is_at (nat_cmp new) n ≡ true) same (grind (arith, nat_tests)) in
            let there : index_among (pages ++ new ∷ []) page ≡ Some (length pages) =
            after ∙ ap (λ o. option_or o (cond (nat_eq new page) (Some (length pages)) None)) nowhere
            ∙ cond-true (nat_eq new page) (Some (length pages)) None (eq-eqb new page same) in
            put page ∙ cond-true (is_at (nat_cmp new) page) (Some (length pages)) (get nat_cmp index page) at
            ∙ sym (ap (λ o. cond (is_some o) None (index_among (pages ++ new ∷ []) page)) (first_same page)
            ∙ cond-false (is_some (index_among (take rising pages) page)) None (index_among (pages ++ new ∷ []) page) (some-take pages rising page nowhere) ∙ there))
        | inr other ↦
            (let no : is_at (nat_cmp new) page ≡ false = grind (arith, nat_tests) in
            put page ∙ cond-false (is_at (nat_cmp new) page) (Some (length pages)) (get nat_cmp index page) no ∙ is page
            ∙ sym (elsewhere page other))
      ]
    where
      elsewhere : (page : ℕ) → new ≢ page
          → cond (is_some (index_among (take rising (pages ++ new ∷ [])) page)) None (index_among (pages ++ new ∷ []) page)
          ≡ cond (is_some (index_among (take rising pages) page)) None (index_among pages page)
      elsewhere page other =
          let after : index_among (pages ++ new ∷ []) page ≡ index_among pages page =
          position-push (λ p. nat_eq p page) pages new
          ∙ ap (λ b. option_or (index_among pages page) (cond b (Some (length pages)) None)) (ne_eqb new page other) ∙ or-nothing (index_among pages page) in
          ap (λ o. cond (is_some o) None (index_among (pages ++ new ∷ []) page)) (first_same page)
          ∙ ap (λ o. cond (is_some (index_among (take rising pages) page)) None o) after

  -- it was named before, and the map stays
  pub index-again : is_some (index_among pages new) ≡ true → IsIndexOf (pages ++ new ∷ []) rising index
  index-again some page =
      let after : index_among (pages ++ new ∷ []) page ≡ index_among pages page =
      position-push (λ p. nat_eq p page) pages new ∙ elim (cases_eq new page) [
        | inl same ↦ or-something (index_among pages page) (cond (nat_eq new page) (Some (length pages)) None) (subst (λ n. is_some (index_among pages n) ≡ true) same some)
        | inr other ↦ ap (λ b. option_or (index_among pages page) (cond b (Some (length pages)) None)) (ne_eqb new page other) ∙ or-nothing (index_among pages page)
      ] in
      is page ∙ sym (ap (λ o. cond (is_some o) None (index_among (pages ++ new ∷ []) page)) (first_same page)
      ∙ ap (λ o. cond (is_some (index_among (take rising pages) page)) None o) after)

  -- all pages rise, and the map stays empty
  pub index-rise : rising ≡ length pages → IsIndexOf (pages ++ new ∷ []) (rising + 1) index
  index-rise all page =
      let size = length_push pages new in
      is page ∙ ap (λ v. cond (is_some (index_among v page)) None (index_among pages page)) (take_all rising pages (omega arith)) ∙ cond-is_some (index_among pages page)
      ∙ sym (ap (λ v. cond (is_some (index_among v page)) None (index_among (pages ++ new ∷ []) page)) (take_all (rising + 1) (pages ++ new ∷ []) (omega arith))
      ∙ cond-is_some (index_among (pages ++ new ∷ []) page))

-- a page that is named once stands at one index
pub index_is : (batch : List Entry) (page k : ℕ) (e : Entry) → times_named batch page ≤ 1 → k < length batch → (get_or batch k e).page.0 ≡ page → entry_index batch page ≡ Some k
index_is batch page k e once below is =
    let test : Entry → Bool = λ v. v.page.0 == page in
    let yes : test (get_or batch k e) ≡ true = eq-eqb (get_or batch k e).page.0 page is in
    let n : ℕ = position_or_len test batch in
    elim (cases_lt k n) [
      | inl before ↦ (let no = fails_before_first test batch k e before in let not : ⊥ = cc in absurd not)
      | inr upto ↦ elim (cases_lt n k) [
        | inl less ↦
            (let found = position-at test batch (omega arith) in
            let first : test (get_or batch n e) ≡ true = (position-Some test batch n e found).1 in
            let size = length-take k batch in
            let any = list_any_at test (take k batch) n e (omega (arith, size)) (ap test (get_or-take k batch n e less) ∙ first) in
            let one = count-from-any test (take k batch) any in
            let more = count_by_more_yes test batch k e below yes in
            let part = sum_by-take-le (λ v. cond (test v) 1 0) batch (k + 1) in
            absurd (omega (arith, one, more, part)))
        | inr past ↦
            (let same : n ≡ k = omega arith in
            position-at test batch (omega (arith, same)) ∙ ap (λ v. Some v) same)
      ]
    ]
