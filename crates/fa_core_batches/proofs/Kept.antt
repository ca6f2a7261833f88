-- What stays true of the tables of batches.
use Rattle.fa_core_batches.proofs.Opened.{some_mapped}
use Rattle.fa_core_batches.specs.Pages.{Lists, Pages, list_at, numbers_of, page_at}
use Rattle.fa_core_batches.specs.Whole.{IsList, IsWhole}
use Rattle.fa_core_batches.specs.declared.page.BatchList.{BatchList}
use Rattle.fa_core_batches.specs.declared.page.BatchPage.{BatchPage}
use Rattle.fa_machine.specs.Maps.{is_one_of}
use Rattle.fa_machine.specs.Step.{is_distinct}
use Rattle.fa_types.specs.declared.numbers.Page.{Page}
use Rattle.std.proofs.Common.{Bool, List, None, Option, Some, [], ap, arith, eq-eqb, eqb-true, false, inl, inr, length, map, refl, subst}
use Rattle.std.proofs.Common.{sym, true, ℕ, ◌++◌, ◌<◌, ◌≤◌, ◌∙◌, ◌∷◌, ◌≡◌}
use Rattle.std.proofs.lemmas.Bool.{and_from, and_parts, cases_eq, false_from_ne_true, false≢true, ne_eqb, or_parts}
use Rattle.std.proofs.lemmas.List.Folds.{list_any-append}
use Rattle.std.proofs.lemmas.List.{length-append, map-append}
use Rattle.std.proofs.lemmas.Option.{none-some, same_Some}
use Rattle.std.specs.Option.{option_map_or}
use Rattle.std.specs.Prelude.{if◌then◌else◌, is_some, not, option_map, vec_capacity, ◌+◌, ◌==◌, ◌&&◌, ◌||◌}

-- lists with one number more
pub one_of_end : (ns : List ℕ) (n q : ℕ) → is_one_of (ns ++ n ∷ []) q ≡ (is_one_of ns q || n == q)
one_of_end ns n q = list_any-append (λ x. x == q) ns (n ∷ []) ∙ ap (λ b. is_one_of ns q || b) (or_false (n == q))
  where
    or_false : (b : Bool) → (b || false) ≡ b
    or_false true = refl
    or_false false = refl

or_true : (b : Bool) → (b || true) ≡ true
or_true true = refl
or_true false = refl

or_none : (b : Bool) → (b || false) ≡ b
or_none true = refl
or_none false = refl

pub one_of_last : (ns : List ℕ) (n : ℕ) → is_one_of (ns ++ n ∷ []) n ≡ true
one_of_last ns n = one_of_end ns n n ∙ ap (λ b. is_one_of ns n || b) (eq-eqb n n refl) ∙ or_true (is_one_of ns n)

pub one_of_others : (ns : List ℕ) (n q : ℕ) → (q ≡ n → ⊥) → is_one_of (ns ++ n ∷ []) q ≡ is_one_of ns q
one_of_others ns n q apart = one_of_end ns n q ∙ ap (λ b. is_one_of ns q || b) (ne_eqb n q (λ e. apart (sym e))) ∙ or_none (is_one_of ns q)

pub distinct_end : (ns : List ℕ) (n : ℕ) → is_distinct ns ≡ true → is_one_of ns n ≡ false → is_distinct (ns ++ n ∷ []) ≡ true
distinct_end [] n d none = refl
distinct_end (m ∷ ns) n d none =
    let parts = and_parts (not (is_one_of ns m)) (is_distinct ns) d in
    let away = or_parts (m == n) (is_one_of ns n) none in
    and_from (not (is_one_of (ns ++ n ∷ []) m)) (is_distinct (ns ++ n ∷ []))
    (ap not (one_of_others ns n m (λ e. false≢true (sym away.0 ∙ eq-eqb m n e))) ∙ parts.0)
    (distinct_end ns n parts.1 away.1)

-- what stands at one place, and elsewhere
pub at_place : {X : Type 0} (k n : ℕ) (x y : X) → (if k == k && n == n then x else y) ≡ x
at_place k n x y = ap (λ b. if b then x else y) (and_from (k == k) (n == n) (eq-eqb k k refl) (eq-eqb n n refl))

pub off_batch : {X : Type 0} (k n q p : ℕ) (x y : X) → (q ≡ k → ⊥) → (if q == k && p == n then x else y) ≡ y
off_batch k n q p x y apart = ap (λ b. if b && p == n then x else y) (ne_eqb q k apart)

pub off_place : {X : Type 0} (k n q p : ℕ) (x y : X) → (q ≡ k → p ≡ n → ⊥) → (if q == k && p == n then x else y) ≡ y
off_place k n q p x y apart =
    ap (λ b. if b then x else y)
    (false_from_ne_true _ (λ both. let parts = and_parts (q == k) (p == n) both in
    apart (eqb-true q k parts.0) (eqb-true p n parts.1)))

pub at_batch : {X : Type 0} (k : ℕ) (x y : X) → (if k == k then x else y) ≡ x
at_batch k x y = ap (λ b. if b then x else y) (eq-eqb k k refl)

pub other_batch : {X : Type 0} (k q : ℕ) (x y : X) → (q ≡ k → ⊥) → (if q == k then x else y) ≡ y
other_batch k q x y apart = ap (λ b. if b then x else y) (ne_eqb q k apart)

pub none_before : {X Y : Type 0} (f : X → Y) (o : Option X) → option_map f o ≡ None → o ≡ None
none_before f None e = refl
none_before f (Some x) e = absurd (none-some (f x) (sym e))

pub some_is : {X : Type 0} (o : Option X) (x : X) → o ≡ Some x → is_some o ≡ true
some_is o x e = ap is_some e

module _ {A : Type 0} (page_bytes next : ℕ) (lists : Lists A) (pages : Pages A) (w : IsWhole page_bytes next lists pages) where
  abbrev in_list : (o : Option (BatchList A)) (p : ℕ) → Bool
  in_list o p = option_map_or (λ (list : BatchList A). is_one_of (numbers_of list) p) o false

  none_at_next : list_at lists next ≡ None
  none_at_next = go (list_at lists next) refl
    where
      go : (o : Option (BatchList A)) → list_at lists next ≡ o → list_at lists next ≡ None
      go None is = is
      go (Some list) is = let less = w.below next (some_is _ list is) in absurd (omega (arith, less))

  -- a batch of no pages begins
  module _ (lists' : Lists A) (list : BatchList A) (no_pages : list.pages.items ≡ []) (no_answers : list.answers.items ≡ [])
      (wide : list.room ≤ vec_capacity list.pages) (room : list.room ≤ vec_capacity list.answers)
      (begun : (b : ℕ) → list_at lists' b ≡ (if b == next then Some list else list_at lists b)) where
    pub begun_here : list_at lists' next ≡ Some list
    begun_here = begun next ∙ at_batch next (Some list) (list_at lists next)

    pub begun_others : (q : ℕ) → (q ≡ next → ⊥) → list_at lists' q ≡ list_at lists q
    begun_others q apart = begun q ∙ other_batch next q (Some list) (list_at lists q) apart

    new_list : IsList list
    new_list = record {
      distinct = ap (λ (ps : List Page). is_distinct (map (λ (page : Page). page.0) ps)) no_pages;
      fits = let none = ap {B = ℕ} (λ (ps : List Page). length ps) no_pages in omega (arith, none);
      wide = wide;
      room = room;
      none = no_answers;
    }

    pub whole_begun : IsWhole page_bytes (next + 1) lists' pages
    whole_begun = record {
      below = λ b there. elim (cases_eq b next) [
        | inl same ↦ omega (arith, same)
        | inr apart ↦ let less = w.below b (ap is_some (sym (begun_others b apart)) ∙ there) in omega (arith, less)
      ];
      listed = λ b l is. elim (cases_eq b next) [
        | inl same ↦ subst IsList (same_Some list l (sym begun_here ∙ ap (list_at lists') (sym same) ∙ is)) new_list
        | inr apart ↦ w.listed b l (sym (begun_others b apart) ∙ is)
      ];
      agree = λ b p. elim (cases_eq b next) [
        | inl same ↦
            ap (λ k. is_some (page_at pages k p)) same ∙ w.agree next p ∙ ap (λ o. in_list o p) none_at_next
            ∙ sym (ap (λ k. in_list (list_at lists' k) p) same ∙ ap (λ o. in_list o p) begun_here
            ∙ ap (λ (ps : List Page). is_one_of (map (λ (page : Page). page.0) ps) p) no_pages)
        | inr apart ↦ w.agree b p ∙ ap (λ o. in_list o p) (sym (begun_others b apart))
      ];
      sized = w.sized;
    }

  -- a page is added to a batch
  module _ (lists' : Lists A) (pages' : Pages A) (k : ℕ) (page : Page) (entry : BatchPage A) (l l' : BatchList A)
      (was : list_at lists k ≡ Some l) (is : list_at lists' k ≡ Some l')
      (longer : l'.pages.items ≡ l.pages.items ++ page ∷ []) (same_wide : vec_capacity l'.pages ≡ vec_capacity l.pages)
      (same_room : l'.room ≡ l.room) (same_answers : l'.answers ≡ l.answers) (has_room : length l.pages.items < l.room)
      (others : (b : ℕ) → (b ≡ k → ⊥) → list_at lists' b ≡ list_at lists b)
      (absent : page_at pages k page.0 ≡ None) (full : length entry.buffer.items ≡ page_bytes)
      (put : (b p : ℕ) → page_at pages' b p ≡ (if b == k && p == page.0 then Some entry else page_at pages b p)) where
    pub numbers_more : numbers_of l' ≡ numbers_of l ++ page.0 ∷ []
    numbers_more = ap (map (λ (page : Page). page.0)) longer ∙ map-append (λ (page : Page). page.0) l.pages.items (page ∷ [])

    not_listed : is_one_of (numbers_of l) page.0 ≡ false
    not_listed = sym (w.agree k page.0 ∙ ap (λ o. in_list o page.0) was) ∙ ap is_some absent

    longer_list : IsList l'
    longer_list =
        let old = w.listed k l was in
        record {
          distinct = ap is_distinct numbers_more ∙ distinct_end (numbers_of l) page.0 old.distinct not_listed;
          fits =
              let more : length l'.pages.items ≡ length l.pages.items + 1
              = ap {B = ℕ} (λ (ps : List Page). length ps) longer ∙ length-append l.pages.items (page ∷ []) in
              omega (arith, more, same_room, has_room);
          wide = let before = old.wide in omega (arith, same_wide, same_room, before);
          room =
              let same : vec_capacity l'.answers ≡ vec_capacity l.answers = ap {B = ℕ} (λ v. vec_capacity v) same_answers in
              let before = old.room in omega (arith, same, same_room, before);
          none = ap (λ v. v.items) same_answers ∙ old.none;
        }

    pub put_here : page_at pages' k page.0 ≡ Some entry
    put_here = put k page.0 ∙ at_place k page.0 (Some entry) (page_at pages k page.0)

    pub put_apart : (b p : ℕ) → (b ≡ k → p ≡ page.0 → ⊥) → page_at pages' b p ≡ page_at pages b p
    put_apart b p apart = put b p ∙ off_place k page.0 b p (Some entry) (page_at pages b p) apart

    here_agrees : (p : ℕ) → is_some (page_at pages' k p) ≡ is_one_of (numbers_of l') p
    here_agrees p =
        elim (cases_eq p page.0) [
          | inl same ↦
              ap (λ n. is_some (page_at pages' k n)) same ∙ ap is_some put_here
              ∙ sym (ap (λ ns. is_one_of ns p) numbers_more ∙ ap (is_one_of (numbers_of l ++ page.0 ∷ [])) same
              ∙ one_of_last (numbers_of l) page.0)
          | inr apart ↦
              ap is_some (put_apart k p (λ e. apart)) ∙ w.agree k p ∙ ap (λ o. in_list o p) was
              ∙ sym (ap (λ ns. is_one_of ns p) numbers_more ∙ one_of_others (numbers_of l) page.0 p apart)
        ]

    pub whole_added : IsWhole page_bytes next lists' pages'
    whole_added = record {
      below = λ b there. elim (cases_eq b k) [
        | inl same ↦ let less = w.below k (some_is _ l was) in omega (arith, less, same)
        | inr apart ↦ w.below b (ap is_some (sym (others b apart)) ∙ there)
      ];
      listed = λ b list at. elim (cases_eq b k) [
        | inl same ↦ subst IsList (same_Some l' list (sym is ∙ ap (list_at lists') (sym same) ∙ at)) longer_list
        | inr apart ↦ w.listed b list (sym (others b apart) ∙ at)
      ];
      agree = λ b p. elim (cases_eq b k) [
        | inl same ↦
            ap (λ k. is_some (page_at pages' k p)) same ∙ here_agrees p
            ∙ sym (ap (λ k. in_list (list_at lists' k) p) same ∙ ap (λ o. in_list o p) is)
        | inr apart ↦
            ap is_some (put_apart b p (λ e. absurd (apart e))) ∙ w.agree b p ∙ ap (λ o. in_list o p) (sym (others b apart))
      ];
      sized = λ b p x at. elim (cases_eq b k) [
        | inl same ↦ elim (cases_eq p page.0) [
          | inl same_page ↦
              sym (ap {B = ℕ} (λ (x : BatchPage A). length x.buffer.items)
              (same_Some entry x (sym put_here ∙ (λ i. page_at pages' (sym same i) (sym same_page i)) ∙ at))) ∙ full
          | inr apart ↦ w.sized b p x (sym (put_apart b p (λ e. apart)) ∙ at)
        ]
        | inr apart ↦ w.sized b p x (sym (put_apart b p (λ e. absurd (apart e))) ∙ at)
      ];
    }

  -- each page stands otherwise
  pub whole_changed : (pages' : Pages A) (f : BatchPage A → BatchPage A)
      → ((x : BatchPage A) → length (f x).buffer.items ≡ length x.buffer.items)
      → ((b p : ℕ) → page_at pages' b p ≡ option_map f (page_at pages b p))
      → IsWhole page_bytes next lists pages'
  whole_changed pages' f same_length changed = record {
    below = w.below;
    listed = w.listed;
    agree = λ b p. ap is_some (changed b p) ∙ some_mapped f (page_at pages b p) ∙ w.agree b p;
    sized = λ b p x at. sized_in (page_at pages b p) (w.sized b p) x (sym (changed b p) ∙ at);
  }
    where
      sized_in : (o : Option (BatchPage A)) → ((x : BatchPage A) → o ≡ Some x → length x.buffer.items ≡ page_bytes)
          → (x : BatchPage A) → option_map f o ≡ Some x → length x.buffer.items ≡ page_bytes
      sized_in None each x at = absurd (none-some x at)
      sized_in (Some y) each x at =
          ap {B = ℕ} (λ (x : BatchPage A). length x.buffer.items) (sym (same_Some (f y) x at)) ∙ same_length y ∙ each y refl

  -- a batch ends
  module _ (lists' : Lists A) (pages' : Pages A) (k : ℕ) (l : BatchList A) (was : list_at lists k ≡ Some l)
      (gone : (b : ℕ) → list_at lists' b ≡ (if b == k then None else list_at lists b))
      (left : (b p : ℕ) → page_at pages' b p ≡ (if b == k && is_one_of (numbers_of l) p then None else page_at pages b p)) where
    pub gone_here : list_at lists' k ≡ None
    gone_here = gone k ∙ at_batch k None (list_at lists k)

    pub gone_others : (q : ℕ) → (q ≡ k → ⊥) → list_at lists' q ≡ list_at lists q
    gone_others q apart = gone q ∙ other_batch k q None (list_at lists q) apart

    pub left_others : (q p : ℕ) → (q ≡ k → ⊥) → page_at pages' q p ≡ page_at pages q p
    left_others q p apart =
        left q p ∙ ap (λ b. if b && is_one_of (numbers_of l) p then None else page_at pages q p) (ne_eqb q k apart)

    nothing_left : (b : Bool) (o : Option (BatchPage A)) → is_some o ≡ b → (if b then None else o) ≡ None
    nothing_left true o is = refl
    nothing_left false None is = refl
    nothing_left false (Some x) is = absurd (false≢true (sym is))

    pub left_here : (p : ℕ) → page_at pages' k p ≡ None
    left_here p =
        left k p ∙ ap (λ b. if b && is_one_of (numbers_of l) p then None else page_at pages k p) (eq-eqb k k refl)
        ∙ nothing_left (is_one_of (numbers_of l) p) (page_at pages k p) (w.agree k p ∙ ap (λ o. in_list o p) was)

    pub whole_ended : IsWhole page_bytes next lists' pages'
    whole_ended = record {
      below = λ b there. elim (cases_eq b k) [
        | inl same ↦ absurd (false≢true (sym (ap (λ q. is_some (list_at lists' q)) same ∙ ap is_some gone_here) ∙ there))
        | inr apart ↦ w.below b (ap is_some (sym (gone_others b apart)) ∙ there)
      ];
      listed = λ b list at. elim (cases_eq b k) [
        | inl same ↦ absurd (none-some list (sym (ap (list_at lists') same ∙ gone_here) ∙ at))
        | inr apart ↦ w.listed b list (sym (gone_others b apart) ∙ at)
      ];
      agree = λ b p. elim (cases_eq b k) [
        | inl same ↦
            ap (λ q. is_some (page_at pages' q p)) same ∙ ap is_some (left_here p)
            ∙ sym (ap (λ q. in_list (list_at lists' q) p) same ∙ ap (λ o. in_list o p) gone_here)
        | inr apart ↦ ap is_some (left_others b p apart) ∙ w.agree b p ∙ ap (λ o. in_list o p) (sym (gone_others b apart))
      ];
      sized = λ b p x at. elim (cases_eq b k) [
        | inl same ↦ absurd (none-some x (sym (ap (λ q. page_at pages' q p) same ∙ left_here p) ∙ at))
        | inr apart ↦ w.sized b p x (sym (left_others b p apart) ∙ at)
      ];
    }

    pub left_states : (b p : ℕ) → option_map (λ (x : BatchPage A). x.state) (page_at pages' b p)
        ≡ (if b == k then None else option_map (λ (x : BatchPage A). x.state) (page_at pages b p))
    left_states b p =
        elim (cases_eq b k) [
          | inl same ↦
              ap (λ q. option_map (λ (x : BatchPage A). x.state) (page_at pages' q p)) same
              ∙ ap (option_map (λ (x : BatchPage A). x.state)) (left_here p)
              ∙ sym (ap (λ t. if t then None else option_map (λ (x : BatchPage A). x.state) (page_at pages b p)) (eq-eqb b k same))
          | inr apart ↦
              ap (option_map (λ (x : BatchPage A). x.state)) (left_others b p apart)
              ∙ sym (other_batch k b None (option_map (λ (x : BatchPage A). x.state) (page_at pages b p)) apart)
        ]
