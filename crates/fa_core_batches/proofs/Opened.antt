-- The open batches that the tables stand for.
use Rattle.fa_core_batches.proofs.Answered.{get_answers}
use Rattle.fa_core_batches.specs.Pages.{Lists, Pages, answer_at, answer_in, answers_of, batch_in, is_answered, list_at, numbers_of, opened}
use Rattle.fa_core_batches.specs.Pages.{page_at}
use Rattle.fa_core_batches.specs.Pages.{with_die_out, with_state, without_die}
use Rattle.fa_core_batches.specs.Whole.{IsWhole}
use Rattle.fa_core_batches.specs.declared.page.BatchList.{BatchList}
use Rattle.fa_core_batches.specs.declared.page.BatchPage.{BatchPage}
use Rattle.fa_core_batches.specs.declared.page.PageState.{PageState}
use Rattle.fa_core_batches.specs.declared.page.PageState.TheVariants.{Answered, Booked, InFlight, Torn}
use Rattle.fa_machine.proofs.NumberTables.{get_table, map_of, same_map_of, there}
use Rattle.fa_machine.proofs.Maps.{get-insert_other, get-insert_same, get-remove_other, get-remove_same, has_some}
use Rattle.fa_machine.specs.Maps.{is_one_of}
use Rattle.fa_machine.specs.State.{OpenBatch}
use Rattle.std.proofs.Common.{Bool, eqb-true, List, None, Option, Some, [], ap, arith, false, inl, inr, map, refl, sym, true, ℕ, ◌∙◌, ◌≡◌}
use Rattle.fa_types.specs.declared.numbers.Page.{Page}
use Rattle.std.proofs.lemmas.Bool.{and_parts, cases_Bool, cases_eq, false≢true}
use Rattle.std.specs.BTreeMap.{is_at}
use Rattle.std.specs.Cmp.{unsigned_tied}
use Rattle.std.specs.FinMap.{FinMap, contains_key, empty, get, get-empty, insert, remove}
use Rattle.std.specs.Map.{lookup}
use Rattle.std.specs.Option.{option_map_or}
use Rattle.std.specs.Ordering.{nat_cmp}
use Rattle.std.specs.Prelude.{if◌then◌else◌, is_some, option_and_then, option_map, unwrap_or, ◌==◌, ◌&&◌}

some_answer : (s : PageState) (bytes : List ℕ) → is_some (answer_in s bytes) ≡ is_answered s
some_answer Answered bytes = refl
some_answer (Booked d r) bytes = refl
some_answer (InFlight d) bytes = refl
some_answer Torn bytes = refl

no_answer_lost : (die : ℕ) (s : PageState) (bytes : List ℕ) → answer_in (without_die die s) bytes ≡ answer_in s bytes
no_answer_lost die Answered bytes = refl
no_answer_lost die (Booked d r) bytes = go (d.0 == die)
  where
    go : (b : Bool) → answer_in (if b then Torn else Booked d r) bytes ≡ None
    go true = refl
    go false = refl
no_answer_lost die (InFlight d) bytes = go (d.0 == die)
  where
    go : (b : Bool) → answer_in (if b then Torn else InFlight d) bytes ≡ None
    go true = refl
    go false = refl
no_answer_lost die Torn bytes = refl

none_answered : (s : PageState) (bytes : List ℕ) → is_answered s ≡ false → answer_in s bytes ≡ None
none_answered Answered bytes is = absurd (false≢true (sym is))
none_answered (Booked d r) bytes is = refl
none_answered (InFlight d) bytes is = refl
none_answered Torn bytes is = refl

pub some_mapped : {X Y : Type 0} (f : X → Y) (o : Option X) → is_some (option_map f o) ≡ is_some o
some_mapped f None = refl
some_mapped f (Some x) = refl

module _ {A : Type 0} where
  abbrev pub batches_in : Lists A → Pages A → FinMap nat_cmp OpenBatch
  batches_in lists pages = map_of (batch_in pages) lists

  module _ (lists : Lists A) (pages : Pages A) where
    pub get_batches : (q : ℕ) → get (batches_in lists pages) q ≡ option_map (batch_in pages q) (list_at lists q)
    get_batches = get_table (batch_in pages) lists

    pub open_at : (q : ℕ) → is_some (list_at lists q) ≡ contains_key (batches_in lists pages) q
    open_at = there (batch_in pages) lists

    pub has_list : (q : ℕ) → contains_key (batches_in lists pages) q ≡ true → (list : BatchList A) × (list_at lists q ≡ Some list)
    has_list q is = has_some (list_at lists q) (open_at q ∙ is)

    pub opened_at : (q : ℕ) (o : Option (BatchList A)) → list_at lists q ≡ o
        → opened (batches_in lists pages) q ≡ unwrap_or (option_map (batch_in pages q) o) (record { pages = []; answers = empty })
    opened_at q o is = ap (λ o. unwrap_or o (record { pages = []; answers = empty })) (get_batches q
        ∙ ap (option_map (batch_in pages q)) is)

    pub opened_is : (q : ℕ) (list : BatchList A) → list_at lists q ≡ Some list → opened (batches_in lists pages) q ≡ batch_in pages q list
    opened_is q list is = opened_at q (Some list) is

  -- a batch of no pages
  pub no_pages : (pages : Pages A) (q : ℕ) (list : BatchList A) → list.pages.items ≡ []
      → batch_in pages q list ≡ record { pages = []; answers = empty }
  no_pages pages q list none = λ i. record {
    pages = map (λ (page : Page). page.0) (none i);
    answers = answers_of (answer_at pages q) (map (λ (page : Page). page.0) (none i));
  }

  -- tables that differ at one batch
  module _ (lists lists' : Lists A) (pages pages' : Pages A) (k : ℕ) (others : (q : ℕ) → (q ≡ k → ⊥) → list_at lists' q ≡ list_at lists q)
      (rest : (q p : ℕ) → (q ≡ k → ⊥) → page_at pages' q p ≡ page_at pages q p) where
    same_in : (q : ℕ) → (q ≡ k → ⊥) → (list : BatchList A) → batch_in pages' q list ≡ batch_in pages q list
    same_in q apart list = λ i. record {
      pages = numbers_of list;
      answers = answers_of (λ p. option_and_then (λ (x : BatchPage A). answer_in x.state x.buffer.items) (rest q p apart i))
          (numbers_of list);
    }

    other : (q : ℕ) → (q ≡ k → ⊥) → get (batches_in lists' pages') q ≡ get (batches_in lists pages) q
    other q apart =
        get_batches lists' pages' q ∙ (λ i. option_map (λ list. same_in q apart list i) (others q apart i))
        ∙ sym (get_batches lists pages q)

    pub batch_set : (list : BatchList A) → list_at lists' k ≡ Some list
        → batches_in lists' pages' ≡ insert (batches_in lists pages) k (batch_in pages' k list)
    batch_set list is =
        same_map_of (batch_in pages) _ _ (λ q. elim (cases_eq q k) [
          | inl same ↦
              ap (get (batches_in lists' pages')) same ∙ get_batches lists' pages' k ∙ ap (option_map (batch_in pages' k)) is
              ∙ sym (get-insert_same (batches_in lists pages) k (batch_in pages' k list))
              ∙ ap (get (insert (batches_in lists pages) k (batch_in pages' k list))) (sym same)
          | inr apart ↦ other q apart ∙ sym (get-insert_other (batches_in lists pages) k (batch_in pages' k list) q apart)
        ])

    pub batch_gone : list_at lists' k ≡ None → batches_in lists' pages' ≡ remove (batches_in lists pages) k
    batch_gone is =
        same_map_of (batch_in pages) _ _ (λ q. elim (cases_eq q k) [
          | inl same ↦
              ap (get (batches_in lists' pages')) same ∙ get_batches lists' pages' k ∙ ap (option_map (batch_in pages' k)) is
              ∙ sym (get-remove_same (batches_in lists pages) k) ∙ ap (get (remove (batches_in lists pages) k)) (sym same)
          | inr apart ↦ other q apart ∙ sym (get-remove_other (batches_in lists pages) k q apart)
        ])

  -- tables of pages with the same answers
  pub batches_same : (lists : Lists A) (pages pages' : Pages A) → ((q p : ℕ) → answer_at pages' q p ≡ answer_at pages q p)
      → batches_in lists pages' ≡ batches_in lists pages
  batches_same lists pages pages' same = λ i.
      map_of (λ q (list : BatchList A). record { pages = numbers_of list; answers = answers_of (λ p. same q p i) (numbers_of list) }) lists

  -- what is true of the tables of batches
  module _ (page_bytes next : ℕ) (lists : Lists A) (pages : Pages A) (w : IsWhole page_bytes next lists pages) where
    pub none_next : contains_key (batches_in lists pages) next ≡ false
    none_next =
        elim (cases_Bool (contains_key (batches_in lists pages) next)) [
          | inl is ↦ let less = w.below next (open_at lists pages next ∙ is) in absurd (omega (arith, less))
          | inr none ↦ none
        ]

    pub listed_at : (q p : ℕ) → contains_key (batches_in lists pages) q ≡ true
        → is_one_of (opened (batches_in lists pages) q).pages p ≡ is_some (option_map (λ (x : BatchPage A). x.state) (page_at pages q p))
    listed_at q p is =
        let list = has_list lists pages q is in
        ap (λ (b : OpenBatch). is_one_of b.pages p) (opened_is lists pages q list.0 list.1)
        ∙ sym (w.agree q p ∙ ap (λ o. option_map_or (λ (list : BatchList A). is_one_of (numbers_of list) p) o false) list.1)
        ∙ sym (some_mapped (λ (x : BatchPage A). x.state) (page_at pages q p))

    pub in_open : (q p : ℕ) → is_some (option_map (λ (x : BatchPage A). x.state) (page_at pages q p)) ≡ true
        → contains_key (batches_in lists pages) q ≡ true
    in_open q p is = sym (open_at lists pages q) ∙ go (list_at lists q) refl
      where
        go : (o : Option (BatchList A)) → list_at lists q ≡ o → is_some o ≡ true
        go None none =
            absurd (false≢true (sym (w.agree q p
            ∙ ap (λ o. option_map_or (λ (list : BatchList A). is_one_of (numbers_of list) p) o false) none)
            ∙ sym (some_mapped (λ (x : BatchPage A). x.state) (page_at pages q p)) ∙ is))
        go (Some list) there = refl

    answer_here : (one : Bool) (o : Option (BatchPage A)) → is_some o ≡ one
        → is_some (if one then option_and_then (λ (x : BatchPage A). answer_in x.state x.buffer.items) o else None)
        ≡ option_map_or is_answered (option_map (λ (x : BatchPage A). x.state) o) false
    answer_here true None is = absurd (false≢true is)
    answer_here true (Some x) is = some_answer x.state x.buffer.items
    answer_here false None is = refl
    answer_here false (Some x) is = absurd (false≢true (sym is))

    pub answered_at : (q p : ℕ) → contains_key (opened (batches_in lists pages) q).answers p
        ≡ option_map_or is_answered (option_map (λ (x : BatchPage A). x.state) (page_at pages q p)) false
    answered_at q p = go (list_at lists q) refl
      where
        go : (o : Option (BatchList A)) → list_at lists q ≡ o → contains_key (opened (batches_in lists pages) q).answers p
            ≡ option_map_or is_answered (option_map (λ (x : BatchPage A). x.state) (page_at pages q p)) false
        go None none =
            ap (λ (b : OpenBatch). contains_key b.answers p) (opened_at lists pages q None none)
            ∙ ap is_some (get-empty nat_cmp p)
            ∙ sym (no_page (page_at pages q p)
            (w.agree q p ∙ ap (λ o. option_map_or (λ (list : BatchList A). is_one_of (numbers_of list) p) o false) none))
          where
            no_page : (o : Option (BatchPage A)) → is_some o ≡ false
                → option_map_or is_answered (option_map (λ (x : BatchPage A). x.state) o) false ≡ false
            no_page None is = refl
            no_page (Some x) is = absurd (false≢true (sym is))
        go (Some list) there =
            ap (λ (b : OpenBatch). contains_key b.answers p) (opened_is lists pages q list there)
            ∙ ap is_some (get_answers (answer_at pages q) (numbers_of list) p)
            ∙ answer_here (is_one_of (numbers_of list) p) (page_at pages q p)
            (w.agree q p ∙ ap (λ o. option_map_or (λ (list : BatchList A). is_one_of (numbers_of list) p) o false) there)

  -- no answer is lost with a die
  pub lost_answer : (die : ℕ) (o : Option (BatchPage A))
      → option_and_then (λ (x : BatchPage A). answer_in x.state x.buffer.items) (option_map (with_die_out die) o)
      ≡ option_and_then (λ (x : BatchPage A). answer_in x.state x.buffer.items) o
  lost_answer die None = refl
  lost_answer die (Some x) = no_answer_lost die x.state x.buffer.items

  -- a page that has no answer stands otherwise, and has none still
  pub still_none : (s : PageState) → is_answered s ≡ false → (o : Option (BatchPage A))
      → option_map_or is_answered (option_map (λ (x : BatchPage A). x.state) o) false ≡ false
      → option_and_then (λ (x : BatchPage A). answer_in x.state x.buffer.items) (option_map (with_state s) o)
      ≡ option_and_then (λ (x : BatchPage A). answer_in x.state x.buffer.items) o
  still_none s without None unanswered = refl
  still_none s without (Some x) unanswered = none_answered s x.buffer.items without ∙ sym (none_answered x.state x.buffer.items unanswered)

  pub still_none_at : (lists : Lists A) (pages pages' : Pages A) (k n : ℕ) (s : PageState) → is_answered s ≡ false
      → option_map_or is_answered (option_map (λ (x : BatchPage A). x.state) (page_at pages k n)) false ≡ false
      → ((b p : ℕ) → page_at pages' b p ≡ (if b == k && p == n then option_map (with_state s) (page_at pages b p) else page_at pages b p))
      → batches_in lists pages' ≡ batches_in lists pages
  still_none_at lists pages pages' k n s without unanswered changed =
      batches_same lists pages pages' (λ q p. ap (option_and_then (λ (x : BatchPage A). answer_in x.state x.buffer.items)) (changed q p)
      ∙ go q p (q == k && p == n) refl)
    where
      go : (q p : ℕ) (b : Bool) → (q == k && p == n) ≡ b
          → option_and_then (λ (x : BatchPage A). answer_in x.state x.buffer.items)
          (if b then option_map (with_state s) (page_at pages q p) else page_at pages q p)
          ≡ option_and_then (λ (x : BatchPage A). answer_in x.state x.buffer.items) (page_at pages q p)
      go q p true both =
          let parts = and_parts (q == k) (p == n) both in
          still_none s without (page_at pages q p)
          (ap (λ o. option_map_or is_answered (option_map (λ (x : BatchPage A). x.state) o) false)
          (λ i. page_at pages (eqb-true q k parts.0 i) (eqb-true p n parts.1 i)) ∙ unanswered)
      go q p false both = refl
