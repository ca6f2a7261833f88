-- A batch: the pages that it names, their holders, and what is wrong with it.
use Rattle.std.proofs.Common.{◌≡◌, ◌≢◌, ℕ, suc, ◌+◌, ◌<◌, ◌≤◌, inl, inr, Bool, true, false, cond, ◌&&◌, ◌||◌, Option, Some, None, is_some, IfSome, List, [], ◌∷◌, ◌++◌, length, take, drop, get_or, nat_eq, nat_lt, ◌==◌, refl, sym, ap, ◌∙◌, subst, arith, eq-eqb, eqb-true, length-append}
use Rattle.std.proofs.lemmas.Option.{slice_get-get_or, slice_get_cases}
use Rattle.std.specs.List.{slice_get, find, list_any, position_or_len}
use Rattle.std.specs.Option.{option_map, option_copied, option_map_or}
use Rattle.std.specs.Borrow.{Bor}
use Rattle.std.proofs.lemmas.Bool.{ltb-true, ltb-false, cases_eq, cases_lt, ne_eqb, or_left, cond-true, cond-false, false_from_ne_true}
use Rattle.std.proofs.lemmas.List.{take_more, length-take, get_or-take, nil_from_length}
use Rattle.std.proofs.lemmas.List.Elements.{All-push}
use Rattle.std.proofs.lemmas.List.Folds.{list_any_at}
use Rattle.std.proofs.lemmas.List.Quantifiers.{position-Some}
use Rattle.std.proofs.lemmas.List.Sums.{sum_by-append}
use Rattle.std.proofs.Math.Bool.{or-false}
use Rattle.std.proofs.Math.Seq.{split_at, get_or-append_seam}
use Rattle.fa_types.specs.declared.numbers.Die.{Die}
use Rattle.fa_types.specs.declared.numbers.Page.{Page}
use Rattle.fa_batch_terms.specs.declared.unsound.Unsound.{Unsound}
use Rattle.fa_batch_terms.specs.declared.unsound.Unsound.TheVariants.{NoHolder, Twice}
use Rattle.fa_batch_terms.specs.Batch.{Entry, AreFine, IsFirstWrong, holds, is_among, times_named, with_holder}
use Rattle.fa_batch.specs.Index.{entry_index}
use Rattle.fa_batch_terms.proofs.Counting.{count_by-cons, count-from-any, count-before, once-push}
use Rattle.fa_batch.proofs.Indexed.{position-at}

nonempty : {X : Type 0} (xs : List X) → xs ≢ [] → 0 < length xs
nonempty [] h = absurd (h refl)
nonempty (x ∷ xs) h = omega arith

-- something is found exactly where an element passes
pub is_some-find : {X : Type 0} (p : X → Bool) (xs : List X) → is_some (find p xs) ≡ list_any p xs
is_some-find p [] = refl
is_some-find p (x ∷ xs) =
    elim (p x) as (λ b. is_some (cond b (Some x) (find p xs)) ≡ (b || list_any p xs)) [ true ↦ refl | false ↦ is_some-find p xs ]

is_some-option_map : {X Y : Type 0} (f : X → Y) (o : Option X) → is_some (option_map f o) ≡ is_some o
is_some-option_map f None = refl
is_some-option_map f (Some x) = refl

is_some-option_copied : {X : Type 0} (o : Option (Bor X)) → is_some (option_copied o) ≡ is_some o
is_some-option_copied None = refl
is_some-option_copied (Some x) = refl

-- whether a page has holders, and whether it is named
pub is_named : (batch : List Entry) (page : ℕ) (o : Option (Bor (List Die))) → option_copied o ≡ option_map (λ e. e.holders) (find (λ e. e.page.0 == page) batch)
    → is_some o ≡ list_any (λ e. e.page.0 == page) batch
is_named batch page o is =
    sym (is_some-option_copied o) ∙ ap (λ v. is_some v) is ∙ is_some-option_map (λ (e : Entry). e.holders) (find (λ e. e.page.0 == page) batch) ∙ is_some-find (λ (e : Entry). e.page.0 == page) batch

-- a page that is not named has no holder
pub unnamed_holds : (page die : ℕ) (batch : List Entry) → list_any (λ e. e.page.0 == page) batch ≡ false → holds batch page die ≡ false
unnamed_holds page die [] h = refl
unnamed_holds page die (e ∷ batch) h =
    elim (cases_eq e.page.0 page) [
      | inl same ↦ (let yes = eq-eqb e.page.0 page same in let t = or_left (nat_eq e.page.0 page) (list_any (λ (v : Entry). v.page.0 == page) batch) yes in let no : ⊥ = cc in absurd no)
      | inr other ↦ (let fails = ne_eqb e.page.0 page other in
          let rest = ap (λ b. b || list_any (λ (v : Entry). v.page.0 == page) batch) (sym fails) ∙ h in
          ap (λ b. (b && is_among e.holders die) || holds batch page die) fails ∙ unnamed_holds page die batch rest)
    ]

-- the holders of a page that is named once are those of its one entry
pub named_holds : (page die : ℕ) (batch : List Entry) (e : Entry) → times_named batch page ≤ 1 → find (λ e. e.page.0 == page) batch ≡ Some e → holds batch page die ≡ is_among e.holders die
named_holds page die [] found once is = cc
named_holds page die (e ∷ batch) found once is =
    let split = count_by-cons (λ (v : Entry). v.page.0 == page) e batch in
    elim (cases_eq e.page.0 page) [
      | inl same ↦
          (let yes = eq-eqb e.page.0 page same in
          let one : times_named (e ∷ batch) page ≡ 1 + times_named batch page = split ∙ ap (λ b. cond b 1 0 + times_named batch page) yes in
          let none : list_any (λ (v : Entry). v.page.0 == page) batch ≡ false = false_from_ne_true (list_any (λ (v : Entry). v.page.0 == page) batch)
          (λ any. let c = count-from-any (λ (v : Entry). v.page.0 == page) batch any in let no : ⊥ = omega (arith, one, c) in no) in
          let this : Some e ≡ Some found = sym (cond-true (nat_eq e.page.0 page) (Some e) (find (λ v. v.page.0 == page) batch) yes) ∙ is in
          let e_is : e ≡ found = cc in
          ap (λ b. (b && is_among e.holders die) || holds batch page die) yes ∙ ap (λ b. is_among e.holders die || b) (unnamed_holds page die batch none)
          ∙ or-false (is_among e.holders die) ∙ ap (λ v. is_among v.holders die) e_is)
      | inr other ↦
          (let fails = ne_eqb e.page.0 page other in
          let same : times_named (e ∷ batch) page ≡ 0 + times_named batch page = split ∙ ap (λ b. cond b 1 0 + times_named batch page) fails in
          let there = sym (cond-false (nat_eq e.page.0 page) (Some e) (find (λ v. v.page.0 == page) batch) fails) ∙ is in
          ap (λ b. (b && is_among e.holders die) || holds batch page die) fails ∙ named_holds page die batch found (omega (arith, same)) there)
    ]

-- the holders that a look-up gives
pub found_holders : (batch : List Entry) (page die : ℕ) (hs : List Die) → times_named batch page ≤ 1 → Some hs ≡ option_map (λ e. e.holders) (find (λ e. e.page.0 == page) batch)
    → is_among hs die ≡ holds batch page die
found_holders batch page die hs once is =
    let at : (o : Option Entry) → find (λ e. e.page.0 == page) batch ≡ o → Some hs ≡ option_map (λ e. e.holders) o → is_among hs die ≡ holds batch page die =
    λ o. elim o as (λ v. find (λ e. e.page.0 == page) batch ≡ v → Some hs ≡ option_map (λ e. e.holders) v → is_among hs die ≡ holds batch page die) [
      | None ↦ λ _ no. (let n : ⊥ = cc in absurd n)
      | Some e ↦ λ found same. (let e_is : hs ≡ e.holders = cc in ap (λ v. is_among v die) e_is ∙ sym (named_holds page die batch e once found))
    ] in
    at (find (λ e. e.page.0 == page) batch) refl is

-- what stands at the first index does pass
position_is : (batch : List Entry) (page k : ℕ) → entry_index batch page ≡ Some k → (d : Entry) → nat_eq (get_or batch k d).page.0 page ≡ true
position_is batch page k at d = (position-Some (λ e. e.page.0 == page) batch k d at).1

-- Entries so far that are fine, and the next one.
module _ (batch : List Entry) (i : ℕ) (e : Entry) (below : i < length batch) (read : get_or batch i e ≡ e) (fine : AreFine (take i batch)) where
  next_is : take (i + 1) batch ≡ take i batch ++ e ∷ []
  next_is = take_more batch i e below ∙ ap (λ v. take i batch ++ v ∷ []) read

  whole_is : batch ≡ take i batch ++ e ∷ drop (suc i) batch
  whole_is = split_at batch i e below ∙ ap (λ v. take i batch ++ v ∷ drop (suc i) batch) read

  no_holder : e.holders ≡ [] → IsFirstWrong batch (NoHolder e.page)
  no_holder none = record { before = take i batch; entry = e; after = drop (suc i) batch; whole = whole_is; fine = fine; wrong = (refl, none) }

  named_before : e.holders ≢ [] → (k : ℕ) → entry_index batch e.page.0 ≡ Some k → k < i → IsFirstWrong batch (Twice e.page)
  named_before some k at earlier =
      let test : Entry → Bool = λ v. v.page.0 == e.page.0 in
      let place = position_is batch e.page.0 k at in
      let bound = length-take i batch in
      let there : test (get_or (take i batch) k e) ≡ true = ap test (get_or-take i batch k e earlier) ∙ place e in
      let any = list_any_at test (take i batch) k e (omega (arith, bound)) there in
      record { before = take i batch; entry = e; after = drop (suc i) batch; whole = whole_is; fine = fine; wrong = (refl, some, count-from-any test (take i batch) any) }

  fine_more : e.holders ≢ [] → ((k : ℕ) → entry_index batch e.page.0 ≡ Some k → i ≤ k) → AreFine (take (i + 1) batch)
  fine_more some first =
      let test : Entry → Bool = λ v. v.page.0 == e.page.0 in
      let start : i ≤ position_or_len test batch =
      elim (cases_lt (position_or_len test batch) (length batch)) [
        | inl found ↦ first (position_or_len test batch) (position-at test batch found)
        | inr past ↦ omega arith
      ] in
      let none = count-before test batch i start in
      let fresh : list_any test (take i batch) ≡ false = false_from_ne_true (list_any test (take i batch)) (λ any. let c = count-from-any test (take i batch) any in let no : ⊥ = omega (arith, none, c) in no) in
      subst (λ v. AreFine v) (sym next_is) (record {
        held = All-push (λ v. 0 < length v.holders) (take i batch) e fine.held (nonempty e.holders some);
        once = once-push (λ k v. v.page.0 == k) (λ v. v.page.0) (λ v. eq-eqb v.page.0 v.page.0 refl) (λ k v same. sym (eqb-true v.page.0 k same)) (take i batch) e fresh fine.once;
      })

-- a batch with an entry that is wrong is not fine
pub not_fine : (batch : List Entry) (unsound : Unsound) → IsFirstWrong batch unsound → AreFine batch → ⊥
not_fine batch (NoHolder page) first fine =
    let held : 0 < length (get_or batch (length first.before) first.entry).holders = fine.held (length first.before) first.entry (omega (arith, ap (λ v. length v) first.whole, length-append first.before (first.entry ∷ first.after))) in
    let at : get_or batch (length first.before) first.entry ≡ first.entry = ap (λ v. get_or v (length first.before) first.entry) first.whole ∙ get_or-append_seam first.before first.entry first.after first.entry in
    let none : length first.entry.holders ≡ 0 = ap (λ v. length v) first.wrong.1 in
    let same : length (get_or batch (length first.before) first.entry).holders ≡ length first.entry.holders = ap (λ (v : Entry). length v.holders) at in
    omega (arith, held, none, same)
not_fine batch (Twice page) first fine =
    let test : Entry → Bool = λ v. v.page.0 == page.0 in
    let split : times_named batch page.0 ≡ times_named first.before page.0 + times_named (first.entry ∷ first.after) page.0 =
    ap (λ v. times_named v page.0) first.whole ∙ sum_by-append (λ v. cond (test v) 1 0) first.before (first.entry ∷ first.after) in
    let head = count_by-cons test first.entry first.after in
    let this : cond {A = ℕ} (test first.entry) 1 0 ≡ 1 = ap (λ b. cond {A = ℕ} b 1 0) (eq-eqb first.entry.page.0 page.0 (ap (λ v. v.0) first.wrong.0)) in
    let most = fine.once page.0 in
    let before = first.wrong.2 in
    omega (arith, split, head, this, most, before)

-- one more holder of the last entry
pub with_holder-push : (batch : List Entry) (e : Entry) (die : Die)
    → with_holder (batch ++ e ∷ []) die ≡ batch ++ record { page = e.page; holders = e.holders ++ die ∷ [] } ∷ []
with_holder-push [] e die = refl
with_holder-push (f ∷ []) e die = refl
with_holder-push (f ∷ next ∷ batch) e die = ap (λ v. f ∷ v) (with_holder-push (next ∷ batch) e die)

-- the entry at an index
pub entry_here : (batch : List Entry) (i : ℕ) → i < length batch → (e : Entry) × (slice_get batch i ≡ Some e) × (get_or batch i e ≡ e)
entry_here batch i below =
    elim ((slice_get_cases batch i).1) [ inl f ↦ (f.0, f.2, f.3) | inr p ↦ absurd (omega (arith, below, p.0)) ]

-- what the answer says of whether an index is earlier
earlier_at : (o : Option ℕ) (i : ℕ) → option_map_or (λ k. nat_lt k i) o false ≡ true → (k : ℕ) × (o ≡ Some k) × (k < i)
earlier_at None i h = cc
earlier_at (Some k) i h = (k, refl, ltb-true k i h)

not_earlier : (o : Option ℕ) (i : ℕ) → option_map_or (λ k. nat_lt k i) o false ≡ false → (k : ℕ) → o ≡ Some k → i ≤ k
not_earlier None i h k is = cc
not_earlier (Some j) i h k is = let same : j ≡ k = cc in omega (arith, ltb-false j i h, same)

-- The entries so far are fine, and the next one is as the code finds it.
module _ (batch : List Entry) (i : ℕ) (holders : List Die) (fine : AreFine (take i batch)) (below : i < length batch)
    (holders_are : IfSome (slice_get batch i) (λ e. e.holders ≡ holders)) where
  pub next_without_holder : (page : Page) → IfSome (slice_get batch i) (λ e. e.page ≡ page) → (length holders == 0) ≡ true → IsFirstWrong batch (NoHolder page)
  next_without_holder page page_is none =
      let here = entry_here batch i below in
      let same : here.0.page ≡ page = subst (λ o. IfSome o (λ (e : Entry). e.page ≡ page)) here.1 page_is in
      let its : here.0.holders ≡ holders = subst (λ o. IfSome o (λ (e : Entry). e.holders ≡ holders)) here.1 holders_are in
      subst (λ p. IsFirstWrong batch (NoHolder p)) same
      (no_holder batch i here.0 below here.2 fine (its ∙ nil_from_length holders (eqb-true (length holders) 0 none)))

  some_holder : (e : Entry) → slice_get batch i ≡ Some e → (length holders == 0) ≡ false → e.holders ≢ []
  some_holder e is some none =
      let its : e.holders ≡ holders = subst (λ o. IfSome o (λ (v : Entry). v.holders ≡ holders)) is holders_are in
      let size : length holders ≡ 0 = ap (λ v. length v) (sym its ∙ none) in
      let yes = eq-eqb (length holders) 0 size in
      let no : ⊥ = cc in
      no

  -- whether it was named before
  module _ (before : Bool) (before_is : IfSome (slice_get batch i) (λ e. before ≡ option_map_or (λ k. nat_lt k i) (entry_index batch e.page.0) false))
      (some : (length holders == 0) ≡ false) where
    pub next_named_before : (page : Page) → IfSome (slice_get batch i) (λ e. e.page ≡ page) → before ≡ true → IsFirstWrong batch (Twice page)
    next_named_before page page_is named =
        let here = entry_here batch i below in
        let same : here.0.page ≡ page = subst (λ o. IfSome o (λ (e : Entry). e.page ≡ page)) here.1 page_is in
        let earlier : before ≡ option_map_or (λ k. nat_lt k i) (entry_index batch here.0.page.0) false =
        subst (λ o. IfSome o (λ (e : Entry). before ≡ option_map_or (λ k. nat_lt k i) (entry_index batch e.page.0) false)) here.1 before_is in
        let found = earlier_at (entry_index batch here.0.page.0) i (sym earlier ∙ named) in
        subst (λ p. IsFirstWrong batch (Twice p)) same
        (named_before batch i here.0 below here.2 fine (some_holder here.0 here.1 some) found.0 found.1 found.2)

    pub next_fine : before ≡ false → AreFine (take (i + 1) batch)
    next_fine fresh =
        let here = entry_here batch i below in
        let earlier : before ≡ option_map_or (λ k. nat_lt k i) (entry_index batch here.0.page.0) false =
        subst (λ o. IfSome o (λ (e : Entry). before ≡ option_map_or (λ k. nat_lt k i) (entry_index batch e.page.0) false)) here.1 before_is in
        fine_more batch i here.0 below here.2 fine (some_holder here.0 here.1 some)
        (λ k first. not_earlier (entry_index batch here.0.page.0) i (sym earlier ∙ fresh) k first)

-- the page of an entry
pub page_at : (batch : List Entry) (i : ℕ) (page : Page) → i < length batch → IfSome (slice_get batch i) (λ e. e.page ≡ page) → (d : Entry) → (get_or batch i d).page ≡ page
page_at batch i page below is d = let at = slice_get-get_or batch i d below in subst (λ o. IfSome o (λ e. e.page ≡ page)) at is
