-- The index of a page's entry in a batch, and marks of entries as things with pages are gone through.
use Rattle.std.proofs.Common.{◌≡◌, ℕ, ◌+◌, ◌<◌, ◌≤◌, inl, inr, Bool, true, false, ◌||◌, Some, None, is_some, IfSome, List, [], length, take, set, get_or, nat_eq, ◌==◌, sym, ap, ◌∙◌, subst, arith, eq-eqb, eqb-true}
use Rattle.std.specs.List.{list_any, slice_get}
use Rattle.std.proofs.lemmas.Bool.{cases_eq, ne_eqb}
use Rattle.std.proofs.lemmas.List.{get_or-set_other}
use Rattle.std.proofs.lemmas.Grind.{get_or-set_at}
use Rattle.std.proofs.lemmas.List.Folds.{list_any_at, list_any_more}
use Rattle.std.proofs.lemmas.List.Quantifiers.{position-Some}
use Rattle.std.proofs.lemmas.Option.{slice_get-get_or}
use Rattle.std.proofs.Math.Bool.{or-false, or-true}
use Rattle.fa_types.specs.declared.numbers.Die.{Die}
use Rattle.fa_batch_terms.specs.Batch.{Entry, holds, is_among, times_named}
use Rattle.fa_batch.specs.Index.{entry_index}
use Rattle.fa_cert.specs.Marks.{AreMarks}
use Rattle.fa_batch_terms.proofs.Counting.{count-from-any}
use Rattle.fa_batch.proofs.Batches.{is_some-find, named_holds}
use Rattle.fa_batch.proofs.Indexed.{find-at, find-nowhere, index_is}

-- what stands at a page's index has the page
pub page_there : (batch : List Entry) (page k : ℕ) → entry_index batch page ≡ Some k → (e : Entry) → (get_or batch k e).page.0 ≡ page
page_there batch page k at e = eqb-true (get_or batch k e).page.0 page (position-Some (λ (v : Entry). v.page.0 == page) batch k e at).1

pub index_below : (batch : List Entry) (page k : ℕ) → entry_index batch page ≡ Some k → k < length batch
index_below batch page k at = (find-at (λ (v : Entry). v.page.0 == page) batch k at).0

-- a page with no index is not named, and has no holder
pub not_named : (batch : List Entry) (page : ℕ) → entry_index batch page ≡ None → list_any (λ e. e.page.0 == page) batch ≡ false
not_named batch page none =
    sym (is_some-find (λ (v : Entry). v.page.0 == page) batch) ∙ ap (λ o. is_some o) (find-nowhere (λ (v : Entry). v.page.0 == page) batch none)

-- what stands for an entry past the end
abbrev pub no_entry : Entry
no_entry = record { page = record { 0 = 0 }; holders = [] }

-- the holders of a page that is named once stand at its index
module _ (batch : List Entry) (page k : ℕ) (once : times_named batch page ≤ 1) (at : entry_index batch page ≡ Some k) where
  entry_there : slice_get batch k ≡ Some (get_or batch k no_entry)
  entry_there = slice_get-get_or batch k no_entry (index_below batch page k at)

  holds_is : (die : ℕ) → is_among (get_or batch k no_entry).holders die ≡ holds batch page die
  holds_is die = sym (named_holds page die batch (get_or batch k no_entry) once ((find-at (λ (v : Entry). v.page.0 == page) batch k at).1 ∙ entry_there))

  pub holds_there : (die : ℕ) (b : Bool) → IfSome (slice_get batch k) (λ e. b ≡ is_among e.holders die) → b ≡ holds batch page die
  holds_there die b read =
      let same = subst (λ o. IfSome o (λ (e : Entry). b ≡ is_among e.holders die)) entry_there read in
      same ∙ holds_is die

  pub holders_there : (dies : List Die) → IfSome (slice_get batch k) (λ e. e.holders ≡ dies) → (die : ℕ) → is_among dies die ≡ holds batch page die
  holders_there dies read die =
      let same = subst (λ o. IfSome o (λ (e : Entry). e.holders ≡ dies)) entry_there read in
      ap (λ v. is_among v die) (sym same) ∙ holds_is die

-- Things that have pages, one after the other: the entries of those so far are marked.
module _ {X : Type 0} (key : X → ℕ) (batch : List Entry) (once : (page : ℕ) → times_named batch page ≤ 1) (xs : List X) (i : ℕ) (d : X) (below : i < length xs) (marks : List Bool)
    (are : AreMarks batch (λ page. list_any (λ x. key x == page) (take i xs)) marks) where
  -- the entry of the next one is marked where its page came before
  pub mark_is : (k : ℕ) → entry_index batch (key (get_or xs i d)) ≡ Some k → (e : Entry) → get_or marks k false ≡ list_any (λ x. key x == key (get_or xs i d)) (take i xs)
  mark_is k at e =
      are k e (index_below batch (key (get_or xs i d)) k at) ∙ ap (λ page. list_any (λ x. key x == page) (take i xs)) (page_there batch (key (get_or xs i d)) k at e)

  -- it is marked
  pub mark_more : (k : ℕ) → entry_index batch (key (get_or xs i d)) ≡ Some k → length batch ≤ length marks
      → AreMarks batch (λ page. list_any (λ x. key x == page) (take (i + 1) xs)) (set marks k true)
  mark_more k at long j e under =
      let page : ℕ = (get_or batch j e).page.0 in
      let so_far : Bool = list_any (λ x. key x == page) (take i xs) in
      let more = list_any_more (λ x. key x == page) xs i d below in
      elim (cases_eq j k) [
        | inl same ↦
            (let here : key (get_or xs i d) ≡ page = sym (ap (λ n. (get_or batch n e).page.0) same ∙ page_there batch (key (get_or xs i d)) k at e) in
            get_or-set_at marks k j true false same (omega (arith, index_below batch (key (get_or xs i d)) k at))
            ∙ sym (more ∙ ap (λ b. so_far || b) (eq-eqb (key (get_or xs i d)) page here) ∙ or-true so_far))
        | inr other ↦
            (let elsewhere : nat_eq (key (get_or xs i d)) page ≡ false =
            ne_eqb (key (get_or xs i d)) page (λ here.
            let there = index_is batch (key (get_or xs i d)) j e (once (key (get_or xs i d))) under (sym here) in
            let twice : j ≡ k = cc in
            other twice) in
            get_or-set_other marks k j true false other ∙ are j e under ∙ sym (more ∙ ap (λ b. so_far || b) elsewhere ∙ or-false so_far))
      ]

  -- the next one is not in the batch, and nothing is marked
  pub mark_none : entry_index batch (key (get_or xs i d)) ≡ None → AreMarks batch (λ page. list_any (λ x. key x == page) (take (i + 1) xs)) marks
  mark_none none j e under =
      let page : ℕ = (get_or batch j e).page.0 in
      let so_far : Bool = list_any (λ x. key x == page) (take i xs) in
      let elsewhere : nat_eq (key (get_or xs i d)) page ≡ false =
      ne_eqb (key (get_or xs i d)) page (λ here.
      let there = index_is batch (key (get_or xs i d)) j e (once (key (get_or xs i d))) under (sym here) in
      let no : ⊥ = cc in no) in
      are j e under ∙ sym (list_any_more (λ x. key x == page) xs i d below ∙ ap (λ b. so_far || b) elsewhere ∙ or-false so_far)

-- a page that has an index is named
pub index_counts : (batch : List Entry) (page k : ℕ) → entry_index batch page ≡ Some k → 1 ≤ times_named batch page
index_counts batch page k at =
    count-from-any (λ (e : Entry). e.page.0 == page) batch
    (list_any_at (λ (e : Entry). e.page.0 == page) batch k no_entry (index_below batch page k at) (eq-eqb (get_or batch k no_entry).page.0 page (page_there batch page k at no_entry)))
