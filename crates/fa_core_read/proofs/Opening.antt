-- A batch that gains its pages one by one.
use Rattle.fa_core_batches.specs.Pages.{opened}
use Rattle.fa_core_batches.specs.declared.page.PageState.{PageState}
use Rattle.fa_core_batches.specs.declared.page.PageState.TheVariants.{Answered, Torn}
use Rattle.fa_machine.proofs.Maps.{get-insert_same}
use Rattle.fa_machine.specs.Maps.{insert_all, is_one_of}
use Rattle.fa_machine.specs.Reading.{at_once, has_data}
use Rattle.fa_machine.specs.State.{MapState, OpenBatch}
use Rattle.fa_machine.specs.Step.{is_distinct}
use Rattle.fa_core_read.proofs.Sound.{not_both}
use Rattle.fa_core_read.specs.Opened.{opened_state}
use Rattle.fa_types.specs.declared.numbers.Page.{Page}
use Rattle.std.proofs.Common.{Bool, List, None, Option, Some, [], ap, arith, cond, eq-eqb, false, inl, inr, map, refl, suc, sym, true, zero}
use Rattle.std.proofs.Common.{ℕ, ◌<◌, ◌∙◌, ◌∷◌, ◌≡◌}
use Rattle.std.proofs.lemmas.Bool.{cases_Bool, eqb-true, false_from_ne_true, false≢true, or_parts}
use Rattle.std.proofs.lemmas.List.Elements.{filter-append}
use Rattle.std.proofs.lemmas.List.Folds.{list_any-append}
use Rattle.std.proofs.lemmas.List.Sums.{fold-append}
use Rattle.std.specs.Cmp.{nat_cmp_total, unsigned_tied}
use Rattle.std.specs.FinMap.{FinMap, contains_key, empty, get, get-insert, get-remove, insert, nat_cmp-IsAntisymmetric, remove, same_map}
use Rattle.std.specs.List.{list_any}
use Rattle.std.specs.Ordering.{eq_by_cmp, nat_cmp}
use Rattle.std.specs.Prelude.{if◌then◌else◌, is_some, length, not, slice_index_or, take, unwrap_or, ◌&&◌, ◌++◌, ◌==◌, ◌||◌}

module _ {X : Type 0} (m : FinMap nat_cmp X) (k : ℕ) where
  same_maps : (n o : FinMap nat_cmp X) → ((q : ℕ) → get n q ≡ get o q) → n ≡ o
  same_maps = same_map nat_cmp_total nat_cmp-IsAntisymmetric

  twice : (b : Bool) (x y : X) (o : Option X) → cond b (Some y) (cond b (Some x) o) ≡ cond b (Some y) o
  twice true x y o = refl
  twice false x y o = refl

  pub insert_twice : (x y : X) → insert (insert m k x) k y ≡ insert m k y
  insert_twice x y =
      same_maps _ _ (λ q. get-insert nat_cmp_total (insert m k x) k y q
      ∙ ap (cond (eq_by_cmp nat_cmp q k) (Some y)) (get-insert nat_cmp_total m k x q)
      ∙ twice (eq_by_cmp nat_cmp q k) x y (get m q)
      ∙ sym (get-insert nat_cmp_total m k y q))

  without : (b : Bool) (x : X) (o : Option X) → cond b None (cond b (Some x) o) ≡ cond b None o
  without true x o = refl
  without false x o = refl

  pub remove_inserted : (x : X) → remove (insert m k x) k ≡ remove m k
  remove_inserted x =
      same_maps _ _ (λ q. get-remove nat_cmp_total (insert m k x) k q
      ∙ ap (cond (eq_by_cmp nat_cmp q k) None) (get-insert nat_cmp_total m k x q)
      ∙ without (eq_by_cmp nat_cmp q k) x (get m q)
      ∙ sym (get-remove nat_cmp_total m k q))

  here : (q : ℕ) (x : X) → get m k ≡ Some x → get m q ≡ cond (q == k) (Some x) (get m q)
  here q x is = elim (cases_Bool (q == k)) [
    | inl same ↦ ap (get m) (eqb-true q k same) ∙ is ∙ sym (ap (λ b. cond b (Some x) (get m q)) same)
    | inr other ↦ sym (ap (λ b. cond b (Some x) (get m q)) other)
  ]

  pub insert_same : (x : X) → get m k ≡ Some x → insert m k x ≡ m
  insert_same x is =
      same_maps _ _ (λ q. get-insert nat_cmp_total m k x q ∙ ap (λ b. cond b (Some x) (get m q)) (unsigned_tied q k) ∙ sym (here q x is))

  gone : (q : ℕ) → get m k ≡ None → get m q ≡ cond (q == k) None (get m q)
  gone q is = elim (cases_Bool (q == k)) [
    | inl same ↦ ap (get m) (eqb-true q k same) ∙ is ∙ sym (ap (λ b. cond b None (get m q)) same)
    | inr other ↦ sym (ap (λ b. cond b None (get m q)) other)
  ]

  pub remove_none : get m k ≡ None → remove m k ≡ m
  remove_none is =
      same_maps _ _ (λ q. get-remove nat_cmp_total m k q ∙ ap (λ b. cond b None (get m q)) (unsigned_tied q k) ∙ sym (gone q is))

  pub contains_inserted : (x : X) → contains_key (insert m k x) k ≡ true
  contains_inserted x = ap is_some (get-insert_same m k x)

pub swapped : (a b : ℕ) → (a == b) ≡ (b == a)
swapped a b =
    elim (cases_Bool (b == a)) [
      | inl same ↦ eq-eqb a b (sym (eqb-true b a same)) ∙ sym same
      | inr other ↦ false_from_ne_true (a == b) (λ met. false≢true (sym other ∙ eq-eqb b a (sym (eqb-true a b met)))) ∙ sym other
    ]

-- an open batch, put where it is, changes nothing
pub open_again : (batches : FinMap nat_cmp OpenBatch) (batch : ℕ) → contains_key batches batch ≡ true
    → insert batches batch (opened batches batch) ≡ batches
open_again batches batch there = go (get batches batch) refl there
  where
    go : (o : Option OpenBatch) → get batches batch ≡ o → is_some o ≡ true → insert batches batch (opened batches batch) ≡ batches
    go None is some = absurd (false≢true some)
    go (Some b) is some =
        ap (insert batches batch) (ap (λ o. unwrap_or o (record { pages = []; answers = empty })) is) ∙ insert_same batches batch b is

pub opened_inserted : (batches : FinMap nat_cmp OpenBatch) (batch : ℕ) (b : OpenBatch) → opened (insert batches batch b) batch ≡ b
opened_inserted batches batch b = ap (λ o. unwrap_or o (record { pages = []; answers = empty })) (get-insert_same batches batch b)

module _ (m : MapState) (zeros : List ℕ) where
  abbrev pub answers : List ℕ → FinMap nat_cmp (List ℕ)
  answers pages = insert_all (at_once m pages) zeros empty

  -- the answers of one page more
  pub answers_more : (pages : List ℕ) (page : ℕ) → answers (pages ++ page ∷ [])
      ≡ (if not (has_data (get m.versions page)) then insert (answers pages) page zeros else answers pages)
  answers_more pages page =
      ap (λ ps. insert_all ps zeros empty) (filter-append (λ p. not (has_data (get m.versions p))) pages (page ∷ []))
      ∙ go (not (has_data (get m.versions page)))
    where
      go : (b : Bool) → insert_all (at_once m pages ++ cond b (page ∷ []) []) zeros empty
          ≡ (if b then insert (answers pages) page zeros else answers pages)
      go true = fold-append (λ built k. insert built k zeros) empty (at_once m pages) (page ∷ [])
      go false = fold-append (λ built k. insert built k zeros) empty (at_once m pages) []

  -- how the pages stand with one more
  pub states_more : (pages : List ℕ) (page p : ℕ) → is_one_of pages page ≡ false
      → (if p == page then Some (if not (has_data (get m.versions page)) then Answered else Torn) else opened_state m pages p)
      ≡ opened_state m (pages ++ page ∷ []) p
  states_more pages page p new =
      elim (cases_Bool (p == page)) [
        | inl same ↦
            let is = eqb-true p page same in
            ap (λ b. if b then Some (if not (has_data (get m.versions page)) then Answered else Torn) else opened_state m pages p) same
            ∙ flipped (has_data (get m.versions page)) ∙ ap (λ k. Some (if has_data (get m.versions k) then Torn else Answered)) (sym is)
            ∙ sym (ap (λ b. if b then Some (if has_data (get m.versions p) then Torn else Answered) else None)
            (list_any-append (λ x. x == p) pages (page ∷ []) ∙ found_last (is_one_of pages p) (page == p) (eq-eqb page p (sym is))))
        | inr other ↦
            ap (λ b. if b then Some (if not (has_data (get m.versions page)) then Answered else Torn) else opened_state m pages p) other
            ∙ sym (ap (λ b. if b then Some (if has_data (get m.versions p) then Torn else Answered) else None)
            (list_any-append (λ x. x == p) pages (page ∷ []) ∙ not_last (is_one_of pages p) (page == p) (apart_too other)))
      ]
    where
      flipped : (b : Bool) → Some (if not b then Answered else Torn) ≡ Some (if b then Torn else Answered)
      flipped true = refl
      flipped false = refl

      found_last : (a b : Bool) → b ≡ true → (a || (b || false)) ≡ true
      found_last true b is = refl
      found_last false b is = ap (λ b. b || false) is

      not_last : (a b : Bool) → b ≡ false → (a || (b || false)) ≡ a
      not_last true b is = refl
      not_last false b is = ap (λ b. b || false) is

      apart_too : (p == page) ≡ false → (page == p) ≡ false
      apart_too other = swapped page p ∙ other

  abbrev pub batch_of : List ℕ → OpenBatch
  batch_of pages = record { pages = pages; answers = answers pages }

  abbrev pub with_page : OpenBatch → ℕ → Bool → OpenBatch
  with_page b page answered = record {
    pages = b.pages ++ page ∷ [];
    answers = if answered then insert b.answers page zeros else b.answers;
  }

  -- the batches with one page more
  pub batches_more : (old loop now : FinMap nat_cmp OpenBatch) (batch page : ℕ) (pages : List ℕ) (answered : Bool)
      → loop ≡ insert old batch (batch_of pages) → answered ≡ not (has_data (get m.versions page))
      → now ≡ insert loop batch (with_page (opened loop batch) page answered)
      → now ≡ insert old batch (batch_of (pages ++ page ∷ []))
  batches_more old loop now batch page pages answered before is added =
      added
      ∙ (λ i. insert (before i) batch (with_page (opened (before i) batch) page (is i)))
      ∙ (λ i. insert (insert old batch (batch_of pages)) batch
      (with_page (opened_inserted old batch (batch_of pages) i) page (not (has_data (get m.versions page)))))
      ∙ insert_twice old batch (batch_of pages) (with_page (batch_of pages) page (not (has_data (get m.versions page))))
      ∙ (λ i. insert old batch (record { pages = pages ++ page ∷ []; answers = sym (answers_more pages page) i }))

  -- how pages stand with one more
  pub all_more : (batch page : ℕ) (pages : List ℕ) (answered : Bool) (old loop now : ℕ → ℕ → Option PageState)
      → is_one_of pages page ≡ false → answered ≡ not (has_data (get m.versions page))
      → ((b p : ℕ) → loop b p ≡ (if b == batch then opened_state m pages p else old b p))
      → ((b p : ℕ) → now b p ≡ (if b == batch && p == page then Some (if answered then Answered else Torn) else loop b p))
      → (b p : ℕ) → now b p ≡ (if b == batch then opened_state m (pages ++ page ∷ []) p else old b p)
  all_more batch page pages answered old loop now new is before added b p =
      added b p ∙ (λ i. if b == batch && p == page then Some (if is i then Answered else Torn) else before b p i)
      ∙ go (b == batch)
    where
      go : (t : Bool) → (if t && p == page then Some (if not (has_data (get m.versions page)) then Answered else Torn)
          else (if t then opened_state m pages p else old b p)) ≡ (if t then opened_state m (pages ++ page ∷ []) p else old b p)
      go true = states_more pages page p new
      go false = refl

at_false : (p : ℕ → Bool) (xs : List Page) (i : ℕ) (d : Page) → i < length xs → list_any p (map (λ (x : Page). x.0) xs) ≡ false
    → p (slice_index_or xs i d).0 ≡ false
at_false p [] i d low none = absurd (omega (arith, low))
at_false p (x ∷ xs) zero d low none = (or_parts (p x.0) (list_any p (map (λ (x : Page). x.0) xs)) none).0
at_false p (x ∷ xs) (suc i) d low none =
    at_false p xs i d (omega (arith, low)) (or_parts (p x.0) (list_any p (map (λ (x : Page). x.0) xs)) none).1

-- the next page of a list that names none twice is new
pub next_is_new : (pages : List Page) (i : ℕ) (d : Page) → i < length pages → is_distinct (map (λ (page : Page). page.0) pages) ≡ true
    → is_one_of (map (λ (page : Page). page.0) (take i pages)) (slice_index_or pages i d).0 ≡ false
next_is_new [] i d low is = absurd (omega (arith, low))
next_is_new (x ∷ xs) zero d low is = refl
next_is_new (x ∷ xs) (suc i) d low is =
    let parts = not_both (is_one_of (map (λ (page : Page). page.0) xs) x.0) (is_distinct (map (λ (page : Page). page.0) xs)) is in
    let n = (slice_index_or xs i d).0 in
    (λ k. (swapped x.0 n
    ∙ at_false (λ y. y == x.0) xs i d (omega (arith, low)) parts.0) k || is_one_of (map (λ (page : Page). page.0) (take i xs)) n)
    ∙ next_is_new xs i d (omega (arith, low)) parts.1

-- a batch that has no page yet
pub none_yet : (m : MapState) (batch : ℕ) (old : ℕ → ℕ → Option PageState) → ((p : ℕ) → old batch p ≡ None)
    → (b p : ℕ) → old b p ≡ (if b == batch then opened_state m [] p else old b p)
none_yet m batch old none b p =
    elim (cases_Bool (b == batch)) [
      | inl same ↦ ap (λ k. old k p) (eqb-true b batch same) ∙ none p ∙ sym (ap (λ t. if t then None else old b p) same)
      | inr other ↦ sym (ap (λ t. if t then None else old b p) other)
    ]

-- a page that is none of a batch's yet
pub not_yet : (m : MapState) (batch page : ℕ) (pages : List ℕ) (old now : ℕ → ℕ → Option PageState) → is_one_of pages page ≡ false
    → ((b p : ℕ) → now b p ≡ (if b == batch then opened_state m pages p else old b p)) → now batch page ≡ None
not_yet m batch page pages old now new states =
    states batch page
    ∙ ap (λ t. if t then opened_state m pages page else old batch page) (eq-eqb batch batch refl)
    ∙ ap (λ t. if t then Some (if has_data (get m.versions page) then Torn else Answered) else None) new
