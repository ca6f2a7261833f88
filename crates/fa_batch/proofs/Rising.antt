-- Entries whose pages rise, and a search among them.
use Rattle.std.proofs.Common.{true, ◌≡◌, ℕ, ◌+◌, ◌-◌, ◌<◌, ◌≤◌, Some, Result, Ok, Err, IfSome, false, List, [], ◌∷◌, ◌++◌, length, take, get_or, nat_lt, ◌==◌, sym, ap, ◌∙◌, subst, arith, inl, inr, eq-eqb}
use Rattle.std.specs.List.{slice_get}
use Rattle.std.specs.List.Sorted.{IsSearchInRange, IsBinarySearchResult, IsNonDecreasingBy}
use Rattle.std.specs.Option.{option_map_or}
use Rattle.std.specs.Ordering.{nat_cmp, ordering_index}
use Rattle.std.specs.Result.{result_ok}
use Rattle.std.proofs.lemmas.Bool.{ltb-true, lt-ltb, le-ltb, cases_lt, cases_eq, ne_eqb}
use Rattle.std.proofs.lemmas.Bool.Decides.{nat_tests}
use Rattle.std.proofs.lemmas.Cmp.{ranked}
use Rattle.std.proofs.lemmas.List.{take_all, length-map, length_push, get_or-map, get_or_append_left, get_or_at}
use Rattle.fa_types.specs.declared.numbers.Die.{Die}
use Rattle.fa_batch.specs.declared.batch.HeldPage.{HeldPage}
use Rattle.fa_batch_terms.specs.Batch.{Entry}
use Rattle.fa_batch.specs.Index.{entries_of, entry_index, index_among, pages_of, AreRising}
use Rattle.fa_batch.proofs.Held.{entry_from, index-batch, same_length}
use Rattle.fa_batch.proofs.Indexed.{among-rising, position_first, position_nowhere}

-- one page more, above the last one
rising-push : (pages : List ℕ) (page : ℕ) → AreRising pages → ((k : ℕ) → k + 1 ≡ length pages → get_or pages k 0 < page) → AreRising (pages ++ page ∷ [])
rising-push pages page rise above i j order below =
    let whole = length_push pages page in
    let first : get_or (pages ++ page ∷ []) i 0 ≡ get_or pages i 0 = get_or_append_left pages (page ∷ []) 0 i (omega arith) in
    elim (cases_eq j (length pages)) [
      | inl last ↦
          (let at : get_or (pages ++ page ∷ []) j 0 ≡ page = get_or_at pages page [] 0 j (sym last) in
          elim (cases_eq (i + 1) (length pages)) [
            | inl next ↦ (let less = above i next in omega (arith, first, at, less))
            | inr far ↦
                (let less : get_or pages i 0 < get_or pages (length pages - 1) 0 = rise i (length pages - 1) (omega arith) (omega arith) in
                let more : get_or pages (length pages - 1) 0 < page = above (length pages - 1) (omega arith) in
                omega (arith, first, at, less, more))
          ])
      | inr within ↦
          (let second : get_or (pages ++ page ∷ []) j 0 ≡ get_or pages j 0 = get_or_append_left pages (page ∷ []) 0 j (omega arith) in
          let less : get_or pages i 0 < get_or pages j 0 = rise i j order (omega arith) in
          omega (arith, first, second, less))
    ]

-- the page of an entry
page_of : (held : List HeldPage) (k : ℕ) (d : HeldPage) → k < length held → get_or (pages_of held) k 0 ≡ (get_or held k d).page.0
page_of held k d below = get_or-map (λ (h : HeldPage). h.page.0) held k d 0 below

rises_on : (held : List HeldPage) (rising page : ℕ) (d : HeldPage) → AreRising (take rising (pages_of held)) → rising ≡ length held
    → (get_or held (rising - 1) d).page.0 < page → AreRising (pages_of held ++ page ∷ [])
rises_on held rising page d rise all above =
    let size = length-map held (λ (h : HeldPage). h.page.0) in
    rising-push (pages_of held) page (subst (λ v. AreRising v) (take_all rising (pages_of held) (omega arith)) rise)
    (λ k last.
    let place : k ≡ rising - 1 = omega arith in
    let here = page_of held k d (omega arith) in
    let same : (get_or held k d).page.0 ≡ (get_or held (rising - 1) d).page.0 = ap (λ n. (get_or held n d).page.0) place in
    omega (arith, here, same, above))

-- a page is above the last one exactly where all rise with it
pub rises_where : (held : List HeldPage) (rising page : ℕ) (d : HeldPage) → AreRising (take rising (pages_of held)) → rising ≡ length held → 0 < rising
    → (nat_lt (get_or held (rising - 1) d).page.0 page ≡ true → (rising ≡ length held) × AreRising (pages_of held ++ page ∷ []))
    × ((rising ≡ length held) × AreRising (pages_of held ++ page ∷ []) → nat_lt (get_or held (rising - 1) d).page.0 page ≡ true)
rises_where held rising page d rise all some =
    let size = length-map held (λ (h : HeldPage). h.page.0) in
    let whole = length_push (pages_of held) page in
    let last : get_or (pages_of held ++ page ∷ []) (length held) 0 ≡ page = get_or_at (pages_of held) page [] 0 (length held) size in
    let before : get_or (pages_of held ++ page ∷ []) (rising - 1) 0 ≡ (get_or held (rising - 1) d).page.0 =
    get_or_append_left (pages_of held) (page ∷ []) 0 (rising - 1) (omega arith) ∙ page_of held (rising - 1) d (omega arith) in (
      λ above. (all, rises_on held rising page d rise all (ltb-true _ _ above)),
      λ both.
          let less : get_or (pages_of held ++ page ∷ []) (rising - 1) 0 < get_or (pages_of held ++ page ∷ []) (length held) 0 =
          both.1 (rising - 1) (length held) (omega arith) (omega arith) in
          lt-ltb (get_or held (rising - 1) d).page.0 page (omega (arith, less, last, before)),
    )

-- comparisons with a page rise along the entries
comparisons_rise : (held : List HeldPage) (page : ℕ) → AreRising (pages_of held) → IsNonDecreasingBy (λ h. ordering_index (nat_cmp h.page.0 page)) held
comparisons_rise held page rise i j d order below =
    let size = length-map held (λ (h : HeldPage). h.page.0) in
    let first = page_of held i d (omega arith) in
    let second = page_of held j d below in
    let up : (get_or held i d).page.0 ≤ (get_or held j d).page.0 =
    elim (cases_eq i j) [
      | inl same ↦ (let e : (get_or held i d).page.0 ≡ (get_or held j d).page.0 = ap (λ n. (get_or held n d).page.0) same in omega (arith, e))
      | inr other ↦ (let less : get_or (pages_of held) i 0 < get_or (pages_of held) j 0 = rise i j (omega arith) (omega arith) in omega (arith, less, first, second))
    ] in
    rank (get_or held i d).page.0 (get_or held j d).page.0 up
  where
    rank : (a b : ℕ) → a ≤ b → ordering_index (nat_cmp a page) ≤ ordering_index (nat_cmp b page)
    rank a b le = grind (arith, nat_tests)

-- what a binary search for a page finds
pub searched : (held : List HeldPage) (page : ℕ) (r : Result ℕ ℕ) → AreRising (pages_of held) → IsSearchInRange r (length held)
    → IsBinarySearchResult (λ h. nat_cmp h.page.0 page) held r → result_ok r ≡ index_among (pages_of held) page
searched held page (Ok at) rise within equal =
    let d : HeldPage = record { page = record { 0 = 0 }; end = 0 } in
    let size = length-map held (λ (h : HeldPage). h.page.0) in
    let here : get_or (pages_of held) at 0 ≡ page = page_of held at d within ∙ ranked _ page _ (sym (equal d)) in
    sym (position_first (λ p. p == page) (pages_of held) at 0 (omega arith) (eq-eqb (get_or (pages_of held) at 0) page here)
    (λ j before.
    let less : get_or (pages_of held) j 0 < get_or (pages_of held) at 0 = rise j at before (omega arith) in
    ne_eqb (get_or (pages_of held) j 0) page (λ e. let no : ⊥ = omega (arith, less, here, e) in no)))
searched held page (Err at) rise within parted =
    let d : HeldPage = record { page = record { 0 = 0 }; end = 0 } in
    let size = length-map held (λ (h : HeldPage). h.page.0) in
    let parts = parted (comparisons_rise held page rise) in
    sym (position_nowhere (λ p. p == page) (pages_of held) 0
    (λ k below.
    let here = page_of held k d (omega arith) in
    ne_eqb (get_or (pages_of held) k 0) page (λ e. elim (cases_lt k at) [
      | inl before ↦ (let less : (get_or held k d).page.0 < page = ranked _ page _ (sym (parts.0 k d (omega arith) before)) in omega (arith, here, less, e))
      | inr after ↦ (let more : page < (get_or held k d).page.0 = ranked _ page _ (sym (parts.1 k d after (omega arith))) in omega (arith, here, more, e))
    ])))

-- none of the first pages, which rise, was named before
pub first_is_new : (batch : List Entry) (held : List HeldPage) (holders : List Die) (rising i : ℕ) → entries_of held holders ≡ batch
    → AreRising (take rising (pages_of held)) → i < rising → i < length batch
    → IfSome (slice_get batch i) (λ e. false ≡ option_map_or (λ k. nat_lt k i) (entry_index batch e.page.0) false)
first_is_new batch held holders rising i is rise early below =
    let d : HeldPage = record { page = record { 0 = 0 }; end = 0 } in
    let long = same_length batch held holders is in
    let size = length-map held (λ (h : HeldPage). h.page.0) in
    let there = sym (ap (λ v. slice_get v i) is) ∙ entry_from 0 held holders i d (omega arith) in
    let page : ℕ = (get_or held i d).page.0 in
    let at : entry_index batch page ≡ Some i =
    sym (index-batch batch held holders page is) ∙ ap (λ n. index_among (pages_of held) n) (sym (page_of held i d (omega arith)))
    ∙ among-rising (pages_of held) rising i rise early (omega arith) in
    subst (λ o. IfSome o (λ (e : Entry). false ≡ option_map_or (λ k. nat_lt k i) (entry_index batch e.page.0) false)) (sym there)
    (sym (ap (λ o. option_map_or (λ k. nat_lt k i) o false) at ∙ le-ltb i i (omega arith)))
