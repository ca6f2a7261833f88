-- Each list of a batch knows how many of its pages are torn, and how many have no answer.
use Rattle.fa_core_batches.proofs.Counting.{all_counted, any_counted, count_end, count_others}
use Rattle.fa_core_batches.proofs.Opened.{answered_at, batches_in, opened_is}
use Rattle.fa_core_batches.proofs.Recounted.{counted_low, counted_step, few_counted}
use Rattle.fa_core_batches.specs.Counted.{AreCounted, CanChange, IsCounted, changed, changed_at, count_in, counted_anew, is_open, moved, one, stands}
use Rattle.fa_core_batches.specs.Counted.{state_at}
use Rattle.fa_core_batches.specs.Pages.{Lists, Pages, is_answered, is_torn, list_at, numbers_of, opened, page_at}
use Rattle.fa_core_batches.specs.Whole.{IsWhole}
use Rattle.fa_core_batches.specs.declared.page.BatchList.{BatchList}
use Rattle.fa_core_batches.specs.declared.page.BatchPage.{BatchPage}
use Rattle.fa_core_batches.specs.declared.page.PageState.{PageState}
use Rattle.fa_machine.specs.Maps.{is_one_of}
use Rattle.fa_machine.specs.State.{OpenBatch}
use Rattle.fa_types.specs.declared.numbers.Page.{Page}
use Rattle.std.proofs.Common.{Bool, List, None, Option, Some, [], ap, arith, eq-eqb, false, inl, inr, map, refl, subst}
use Rattle.std.proofs.Common.{sym, true, ℕ, ◌++◌, ◌+◌, ◌∙◌, ◌∷◌, ◌≡◌, ◌≤◌}
use Rattle.std.proofs.lemmas.Bool.{cases_eq, false≢true, ne_eqb}
use Rattle.std.proofs.lemmas.List.{map-append}
use Rattle.std.proofs.lemmas.Option.{none-some, same_Some}
use Rattle.std.specs.FinMap.{contains_key}
use Rattle.std.specs.List.{list_all, list_any}
use Rattle.std.specs.Option.{option_map_or}
use Rattle.std.specs.Prelude.{IfSome, count_by, if◌then◌else◌, is_some, not, option_map, ◌==◌, ◌&&◌}

-- as many where the pages stand as before
same_count : (test : PageState → Bool) (old new : ℕ → Option PageState) → ((q : ℕ) → new q ≡ old q) → (ns : List ℕ)
    → count_in test new ns ≡ count_in test old ns
same_count test old new same ns = λ i. count_by (λ q. stands test (same q i)) ns

module _ {A : Type 0} where
  still_counted : (old new : ℕ → Option PageState) → ((q : ℕ) → new q ≡ old q) → (list : BatchList A) → IsCounted old list → IsCounted new list
  still_counted old new same list c = record {
    torn = c.torn ∙ sym (same_count is_torn old new same (numbers_of list));
    unanswered = c.unanswered ∙ sym (same_count is_open old new same (numbers_of list));
  }

  module _ (page_bytes next : ℕ) (lists : Lists A) (pages : Pages A) (w : IsWhole page_bytes next lists pages) (c : AreCounted lists pages) where
    -- a page stands otherwise
    module _ (lists' : Lists A) (pages' : Pages A) (k n : ℕ) (s : PageState) (there : is_some (state_at pages k n) ≡ true)
        (states : (b p : ℕ) → state_at pages' b p ≡ (if b == k && p == n then Some s else state_at pages b p)) where
      here : state_at pages' k n ≡ Some s
      here = states k n ∙ (λ i. if eq-eqb k k refl i && eq-eqb n n refl i then Some s else state_at pages k n)

      beside : (q : ℕ) → (q ≡ n → ⊥) → state_at pages' k q ≡ state_at pages k q
      beside q apart =
          states k q ∙ (λ i. if eq-eqb k k refl i && ne_eqb q n apart i then Some s else state_at pages k q)

      elsewhere : (b : ℕ) → (b ≡ k → ⊥) → (q : ℕ) → state_at pages' b q ≡ state_at pages b q
      elsewhere b apart q = states b q ∙ (λ i. if ne_eqb b k apart i && q == n then Some s else state_at pages b q)

      among : (l : BatchList A) → list_at lists k ≡ Some l → is_one_of (numbers_of l) n ≡ true
      among l at =
          sym (w.agree k n ∙ ap (λ o. option_map_or (λ (list : BatchList A). is_one_of (numbers_of list) n) o false) at)
          ∙ some_state (page_at pages k n) there
        where
          some_state : (o : Option (BatchPage A)) → is_some (option_map (λ (x : BatchPage A). x.state) o) ≡ true → is_some o ≡ true
          some_state None is = is
          some_state (Some x) is = refl

      step : (test : PageState → Bool) (l : BatchList A) → list_at lists k ≡ Some l
          → count_in test (state_at pages' k) (numbers_of l)
          ≡ moved (count_in test (state_at pages k) (numbers_of l)) (stands test (state_at pages k n)) (test s)
      step test l at =
          counted_step test (state_at pages k) (state_at pages' k) n s (numbers_of l) (w.listed k l at).distinct (among l at) here beside

      low : (test : PageState → Bool) (l : BatchList A) → list_at lists k ≡ Some l
          → one (stands test (state_at pages k n)) ≤ count_in test (state_at pages k) (numbers_of l)
      low test l at =
          counted_low test (state_at pages k) (state_at pages' k) n s (numbers_of l) (w.listed k l at).distinct (among l at) here beside

      can_change_in : (o : Option (BatchList A)) → list_at lists k ≡ o → IfSome o (CanChange (state_at pages k n) s)
      can_change_in None at = tt
      can_change_in (Some l) at =
          let counted = c k l at in
          let torn = counted.torn in
          let unanswered = counted.unanswered in
          let fits = (w.listed k l at).fits in
          let wide = (w.listed k l at).wide in
          let low_torn = low is_torn l at in
          let low_open = low is_open l at in
          let step_torn = step is_torn l at in
          let step_open = step is_open l at in
          let few_torn = few_counted is_torn (state_at pages' k) l in
          let few_open = few_counted is_open (state_at pages' k) l in (
            omega (arith, torn, low_torn),
            omega (arith, unanswered, low_open),
            omega (arith, torn, step_torn, few_torn, fits, wide),
            omega (arith, unanswered, step_open, few_open, fits, wide),
          )

      pub can_change : IfSome (list_at lists k) (CanChange (state_at pages k n) s)
      can_change = can_change_in (list_at lists k) refl

      module _ (put : (b : ℕ) → list_at lists' b ≡ option_map (changed_at k (state_at pages k n) s b) (list_at lists b)) where
        counted_in : (b : ℕ) (o : Option (BatchList A)) → list_at lists b ≡ o → (l' : BatchList A)
            → option_map (changed_at k (state_at pages k n) s b) o ≡ Some l' → IsCounted (state_at pages' b) l'
        counted_in b None at l' is = absurd (none-some l' is)
        counted_in b (Some l) at l' is = subst (IsCounted (state_at pages' b)) (same_Some _ l' is) (elim (cases_eq b k) [
          | inl same ↦
              let old = c k l (ap (list_at lists) (sym same) ∙ at) in
              let now : IsCounted (state_at pages' k) (changed (state_at pages k n) s l) = record {
                torn = ap (λ m. moved m (stands is_torn (state_at pages k n)) (is_torn s)) old.torn
                    ∙ sym (step is_torn l (ap (list_at lists) (sym same) ∙ at));
                unanswered = ap (λ m. moved m (stands is_open (state_at pages k n)) (is_open s)) old.unanswered
                    ∙ sym (step is_open l (ap (list_at lists) (sym same) ∙ at));
              } in
              subst (λ b. IsCounted (state_at pages' b) (changed_at k (state_at pages k n) s b l)) (sym same)
              (subst (λ t. IsCounted (state_at pages' k) (if t then changed (state_at pages k n) s l else l)) (sym (eq-eqb k k refl)) now)
          | inr apart ↦
              subst (λ t. IsCounted (state_at pages' b) (if t then changed (state_at pages k n) s l else l)) (sym (ne_eqb b k apart))
              (still_counted (state_at pages b) (state_at pages' b) (elsewhere b apart) l (c b l at))
        ])

        pub changed_counted : AreCounted lists' pages'
        changed_counted b l' at = counted_in b (list_at lists b) refl l' (sym (put b) ∙ at)

    -- a page is added
    module _ (lists' : Lists A) (pages' : Pages A) (k : ℕ) (page : Page) (entry : BatchPage A) (l l' : BatchList A)
        (was : list_at lists k ≡ Some l) (is : list_at lists' k ≡ Some l')
        (longer : l'.pages.items ≡ l.pages.items ++ page ∷ [])
        (torn : l'.torn ≡ l.torn + one (is_torn entry.state)) (unanswered : l'.unanswered ≡ l.unanswered + one (is_open entry.state))
        (others : (b : ℕ) → (b ≡ k → ⊥) → list_at lists' b ≡ list_at lists b)
        (absent : page_at pages k page.0 ≡ None)
        (put : (b p : ℕ) → page_at pages' b p ≡ (if b == k && p == page.0 then Some entry else page_at pages b p)) where
      abbrev how : Option (BatchPage A) → Option PageState
      how o = option_map (λ (x : BatchPage A). x.state) o

      put_here : state_at pages' k page.0 ≡ Some entry.state
      put_here =
          ap how (put k page.0)
          ∙ (λ i. how (if eq-eqb k k refl i && eq-eqb page.0 page.0 refl i then Some entry else page_at pages k page.0))

      put_beside : (q : ℕ) → (q ≡ page.0 → ⊥) → state_at pages' k q ≡ state_at pages k q
      put_beside q apart =
          ap how (put k q) ∙ (λ i. how (if eq-eqb k k refl i && ne_eqb q page.0 apart i then Some entry else page_at pages k q))

      put_elsewhere : (b : ℕ) → (b ≡ k → ⊥) → (q : ℕ) → state_at pages' b q ≡ state_at pages b q
      put_elsewhere b apart q =
          ap how (put b q) ∙ (λ i. how (if ne_eqb b k apart i && q == page.0 then Some entry else page_at pages b q))

      not_among : is_one_of (numbers_of l) page.0 ≡ false
      not_among =
          sym (w.agree k page.0 ∙ ap (λ o. option_map_or (λ (list : BatchList A). is_one_of (numbers_of list) page.0) o false) was)
          ∙ ap is_some absent

      one_more : (test : PageState → Bool)
          → count_in test (state_at pages' k) (numbers_of l') ≡ count_in test (state_at pages k) (numbers_of l) + one (test entry.state)
      one_more test =
          let numbers = ap (map (λ (page : Page). page.0)) longer ∙ map-append (λ (page : Page). page.0) l.pages.items (page ∷ []) in
          let all = ap (count_in test (state_at pages' k)) numbers in
          let ends = count_end (λ q. stands test (state_at pages' k q)) (numbers_of l) page.0 in
          let rest = count_others (λ q. stands test (state_at pages k q)) (λ q. stands test (state_at pages' k q)) page.0
          (λ q apart. ap (stands test) (put_beside q apart)) (numbers_of l) not_among in
          let last : one (stands test (state_at pages' k page.0)) ≡ one (test entry.state) = ap (λ o. one (stands test o)) put_here in
          omega (arith, all, ends, rest, last)

      pub added_counted : AreCounted lists' pages'
      added_counted b x at = elim (cases_eq b k) [
        | inl same ↦
            let old = c k l was in
            let now : IsCounted (state_at pages' k) l' = record {
              torn = torn ∙ ap (λ m. m + one (is_torn entry.state)) old.torn ∙ sym (one_more is_torn);
              unanswered = unanswered ∙ ap (λ m. m + one (is_open entry.state)) old.unanswered ∙ sym (one_more is_open);
            } in
            subst (λ b. IsCounted (state_at pages' b) x) (sym same)
            (subst (IsCounted (state_at pages' k)) (same_Some l' x (sym is ∙ ap (list_at lists') (sym same) ∙ at)) now)
        | inr apart ↦
            still_counted (state_at pages b) (state_at pages' b) (put_elsewhere b apart) x (c b x (sym (others b apart) ∙ at))
      ]

    -- a batch of no pages begins
    pub begun_counted : (lists' : Lists A) (k : ℕ) (list : BatchList A) → list.pages.items ≡ [] → list.torn ≡ 0 → list.unanswered ≡ 0
        → ((b : ℕ) → list_at lists' b ≡ (if b == k then Some list else list_at lists b)) → AreCounted lists' pages
    begun_counted lists' k list empty torn unanswered begun b x at = elim (cases_eq b k) [
      | inl same ↦
          let is : Some list ≡ Some x = sym (begun b ∙ ap (λ t. if t then Some list else list_at lists b) (eq-eqb b k same)) ∙ at in
          let none : (test : PageState → Bool) → count_in test (state_at pages b) (numbers_of list) ≡ 0
          = λ test. ap (λ (ps : List Page). count_in test (state_at pages b) (map (λ (page : Page). page.0) ps)) empty in
          subst (IsCounted (state_at pages b)) (same_Some list x is)
          (record { torn = torn ∙ sym (none is_torn); unanswered = unanswered ∙ sym (none is_open) })
      | inr apart ↦ c b x (sym (begun b ∙ ap (λ t. if t then Some list else list_at lists b) (ne_eqb b k apart)) ∙ at)
    ]

    -- a batch ends
    pub ended_counted : (lists' : Lists A) (pages' : Pages A) (k : ℕ) → list_at lists' k ≡ None
        → ((b : ℕ) → (b ≡ k → ⊥) → list_at lists' b ≡ list_at lists b)
        → ((b p : ℕ) → (b ≡ k → ⊥) → page_at pages' b p ≡ page_at pages b p) → AreCounted lists' pages'
    ended_counted lists' pages' k gone others rest b x at = elim (cases_eq b k) [
      | inl same ↦ absurd (none-some x (sym (ap (list_at lists') same ∙ gone) ∙ at))
      | inr apart ↦
          still_counted (state_at pages b) (state_at pages' b) (λ q. ap (option_map (λ (x : BatchPage A). x.state)) (rest b q apart)) x
          (c b x (sym (others b apart) ∙ at))
    ]

    -- what is asked of the counts
    pub torn_is : (k : ℕ) (list : BatchList A) → list_at lists k ≡ Some list
        → not (list.torn == 0) ≡ list_any (λ page. option_map_or is_torn (state_at pages k page) false) (opened (batches_in lists pages) k).pages
    torn_is k list at =
        ap (λ m. not (m == 0)) (c k list at).torn ∙ sym (any_counted (λ page. stands is_torn (state_at pages k page)) (numbers_of list))
        ∙ sym (ap (λ (b : OpenBatch). list_any (λ page. option_map_or is_torn (state_at pages k page) false) b.pages)
        (opened_is lists pages k list at))

    pub unanswered_is : (k : ℕ) (list : BatchList A) → list_at lists k ≡ Some list
        → (list.unanswered == 0) ≡ list_all (λ page. contains_key (opened (batches_in lists pages) k).answers page)
        (opened (batches_in lists pages) k).pages
    unanswered_is k list at =
        ap (λ m. m == 0) (c k list at).unanswered
        ∙ sym (all_counted (λ page. contains_key (opened (batches_in lists pages) k).answers page)
        (λ page. stands is_open (state_at pages k page)) (numbers_of list)
        (λ q among. answered_at page_bytes next lists pages w k q ∙ either (page_at pages k q)
        (w.agree k q ∙ ap (λ o. option_map_or (λ (list : BatchList A). is_one_of (numbers_of list) q) o false) at ∙ among)))
        ∙ sym (ap (λ (b : OpenBatch). list_all (λ page. contains_key (opened (batches_in lists pages) k).answers page) b.pages)
        (opened_is lists pages k list at))
      where
        not_not : (b : Bool) → b ≡ not (not b)
        not_not true = refl
        not_not false = refl

        either : (o : Option (BatchPage A)) → is_some o ≡ true
            → option_map_or is_answered (option_map (λ (x : BatchPage A). x.state) o) false
            ≡ not (stands is_open (option_map (λ (x : BatchPage A). x.state) o))
        either None is = absurd (false≢true is)
        either (Some x) is = not_not (is_answered x.state)

  -- the pages are counted anew
  pub anew_counted : (lists lists' : Lists A) (pages : Pages A)
      → ((b : ℕ) → list_at lists' b ≡ option_map (counted_anew pages b) (list_at lists b)) → AreCounted lists' pages
  anew_counted lists lists' pages put b x at = go (list_at lists b) (sym (put b) ∙ at)
    where
      go : (o : Option (BatchList A)) → option_map (counted_anew pages b) o ≡ Some x → IsCounted (state_at pages b) x
      go None is = absurd (none-some x is)
      go (Some l) is = subst (IsCounted (state_at pages b)) (same_Some (counted_anew pages b l) x is) (record { torn = refl; unanswered = refl })
