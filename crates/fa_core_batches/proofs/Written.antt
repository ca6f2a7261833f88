-- An answer that is written, and a page that is added, as the open batches have them.
use Rattle.fa_core_batches.proofs.Answered.{answers_more, answers_same, asked, asked_none}
use Rattle.fa_core_batches.proofs.Kept.{at_place, off_batch, off_place, one_of_last, one_of_others}
use Rattle.fa_core_batches.proofs.Opened.{batch_set, batches_in, in_open, has_list, listed_at, opened_is}
use Rattle.fa_core_batches.specs.Pages.{Lists, Pages, answer_at, answer_in, answers_of, batch_in, list_at, numbers_of, opened, page_at}
use Rattle.fa_core_batches.specs.Pages.{with_answer}
use Rattle.fa_core_batches.specs.Whole.{IsWhole}
use Rattle.fa_core_batches.specs.declared.page.BatchList.{BatchList}
use Rattle.fa_core_batches.specs.declared.page.BatchPage.{BatchPage}
use Rattle.fa_machine.specs.Maps.{is_one_of}
use Rattle.fa_machine.specs.State.{OpenBatch}
use Rattle.fa_types.specs.declared.numbers.Page.{Page}
use Rattle.std.proofs.Common.{Bool, List, None, Option, Some, [], ap, false, inl, inr, map, refl, sym, true, ℕ, ◌++◌, ◌∙◌, ◌∷◌, ◌≡◌}
use Rattle.std.proofs.lemmas.Bool.{cases_eq, false≢true}
use Rattle.std.proofs.lemmas.List.{map-append}
use Rattle.std.specs.FinMap.{contains_key, insert}
use Rattle.std.specs.Prelude.{if◌then◌else◌, is_some, option_and_then, option_map, ◌==◌, ◌&&◌}
use Rattle.std.specs.declared.vec.Vec.{Vec}

module _ {A : Type 0} where
  abbrev bytes_at : Option (BatchPage A) → Option (List ℕ)
  bytes_at o = option_and_then (λ (x : BatchPage A). answer_in x.state x.buffer.items) o

  module _ (page_bytes next : ℕ) (lists : Lists A) (pages : Pages A) (w : IsWhole page_bytes next lists pages) where
    pub answered : (pages' : Pages A) (k n : ℕ) (bytes : Vec ℕ A)
        → is_some (option_map (λ (x : BatchPage A). x.state) (page_at pages k n)) ≡ true
        → ((b p : ℕ) → page_at pages' b p
        ≡ (if b == k && p == n then option_map (with_answer bytes) (page_at pages b p) else page_at pages b p))
        → batches_in lists pages' ≡ insert (batches_in lists pages) k (record (opened (batches_in lists pages) k) {
          answers = insert (opened (batches_in lists pages) k).answers n bytes.items;
        })
    answered pages' k n bytes is changed =
        batch_set lists lists pages pages' k (λ q apart. refl) (λ q p apart. changed q p
        ∙ off_batch k n q p (option_map (with_answer bytes) (page_at pages q p)) (page_at pages q p) apart) list.0 list.1
        ∙ ap (insert (batches_in lists pages) k) (same_batch ∙ sym (ap with_bytes (opened_is lists pages k list.0 list.1)))
      where
        there : contains_key (batches_in lists pages) k ≡ true
        there = in_open page_bytes next lists pages w k n is

        list : (list : BatchList A) × (list_at lists k ≡ Some list)
        list = has_list lists pages k there

        with_bytes : OpenBatch → OpenBatch
        with_bytes b = record b { answers = insert b.answers n bytes.items }

        written : (o : Option (BatchPage A)) → is_some (option_map (λ (x : BatchPage A). x.state) o) ≡ true
            → bytes_at (option_map (with_answer bytes) o) ≡ Some bytes.items
        written None is = absurd (false≢true is)
        written (Some x) is = refl

        listed : is_one_of (numbers_of list.0) n ≡ true
        listed =
            sym (ap (λ (b : OpenBatch). is_one_of b.pages n) (opened_is lists pages k list.0 list.1))
            ∙ listed_at page_bytes next lists pages w k n there ∙ is

        same_batch : batch_in pages' k list.0 ≡ with_bytes (batch_in pages k list.0)
        same_batch = λ i. record {
          pages = numbers_of list.0;
          answers = answers_more (answer_at pages k) (answer_at pages' k) (numbers_of list.0) (numbers_of list.0) n bytes.items
              (ap bytes_at (changed k n ∙ at_place k n (option_map (with_answer bytes) (page_at pages k n)) (page_at pages k n))
              ∙ written (page_at pages k n) is)
              listed
              (λ q apart. ap (λ o. asked (is_one_of (numbers_of list.0) q) (bytes_at o)) (changed k q
              ∙ off_place k n k q (option_map (with_answer bytes) (page_at pages k q)) (page_at pages k q) (λ e. apart))) i;
        }

    -- a page is added, with an answer or without
    module _ (lists' : Lists A) (pages' : Pages A) (k : ℕ) (page : Page) (entry : BatchPage A) (l l' : BatchList A)
        (was : list_at lists k ≡ Some l) (is : list_at lists' k ≡ Some l')
        (longer : l'.pages.items ≡ l.pages.items ++ page ∷ [])
        (others : (b : ℕ) → (b ≡ k → ⊥) → list_at lists' b ≡ list_at lists b)
        (absent : page_at pages k page.0 ≡ None)
        (put : (b p : ℕ) → page_at pages' b p ≡ (if b == k && p == page.0 then Some entry else page_at pages b p)) where
      numbers_then : numbers_of l' ≡ numbers_of l ++ page.0 ∷ []
      numbers_then = ap (map (λ (page : Page). page.0)) longer ∙ map-append (λ (page : Page). page.0) l.pages.items (page ∷ [])

      here : page_at pages' k page.0 ≡ Some entry
      here = put k page.0 ∙ at_place k page.0 (Some entry) (page_at pages k page.0)

      elsewhere : (q : ℕ) → (q ≡ page.0 → ⊥)
          → asked (is_one_of (numbers_of l') q) (answer_at pages' k q) ≡ asked (is_one_of (numbers_of l) q) (answer_at pages k q)
      elsewhere q apart =
          ap (λ ns. asked (is_one_of ns q) (answer_at pages' k q)) numbers_then
          ∙ ap (λ b. asked b (answer_at pages' k q)) (one_of_others (numbers_of l) page.0 q apart)
          ∙ ap (λ o. asked (is_one_of (numbers_of l) q) (bytes_at o))
          (put k q ∙ off_place k page.0 k q (Some entry) (page_at pages k q) (λ e. apart))

      set_then : batches_in lists' pages' ≡ insert (batches_in lists pages) k (batch_in pages' k l')
      set_then =
          batch_set lists lists' pages pages' k others
          (λ q p apart. put q p ∙ off_batch k page.0 q p (Some entry) (page_at pages q p) apart) l' is

      answers_now : (answered : Bool) (bytes : List ℕ) → answer_in entry.state entry.buffer.items ≡ (if answered then Some bytes else None)
          → answers_of (answer_at pages' k) (numbers_of l')
          ≡ (if answered then insert (answers_of (answer_at pages k) (numbers_of l)) page.0 bytes
          else answers_of (answer_at pages k) (numbers_of l))
      answers_now true bytes state =
          answers_more (answer_at pages k) (answer_at pages' k) (numbers_of l) (numbers_of l') page.0 bytes (ap bytes_at here ∙ state)
          (ap (λ ns. is_one_of ns page.0) numbers_then ∙ one_of_last (numbers_of l) page.0) elsewhere
      answers_now false bytes state =
          answers_same (answer_at pages k) (answer_at pages' k) (numbers_of l) (numbers_of l') (λ q. elim (cases_eq q page.0) [
            | inl same ↦
                ap (λ q. asked (is_one_of (numbers_of l') q) (answer_at pages' k q)) same
                ∙ ap (asked (is_one_of (numbers_of l') page.0)) (ap bytes_at here ∙ state) ∙ asked_none (is_one_of (numbers_of l') page.0)
                ∙ sym (asked_none (is_one_of (numbers_of l) page.0))
                ∙ ap (asked (is_one_of (numbers_of l) page.0)) (sym (ap bytes_at absent))
                ∙ ap (λ q. asked (is_one_of (numbers_of l) q) (answer_at pages k q)) (sym same)
            | inr apart ↦ elsewhere q apart
          ])

      pub added : (answered : Bool) (bytes : List ℕ) → answer_in entry.state entry.buffer.items ≡ (if answered then Some bytes else None)
          → batches_in lists' pages' ≡ insert (batches_in lists pages) k (record {
            pages = (opened (batches_in lists pages) k).pages ++ page.0 ∷ [];
            answers = if answered then insert (opened (batches_in lists pages) k).answers page.0 bytes
                else (opened (batches_in lists pages) k).answers;
          })
      added answered bytes state =
          set_then
          ∙ ap (insert (batches_in lists pages) k) (
          (λ i. record { pages = numbers_then i; answers = answers_now answered bytes state i })
          ∙ sym (ap {A = OpenBatch} {B = OpenBatch} (λ b. record {
            pages = b.pages ++ page.0 ∷ [];
            answers = if answered then insert b.answers page.0 bytes else b.answers;
          }) (opened_is lists pages k l was))
          )
