-- Open batches where one of them has one answer more.
use Rattle.fa_core_batches.specs.Pages.{opened}
use Rattle.fa_machine.proofs.Maps.{get-insert_other, get-insert_same}
use Rattle.fa_machine.specs.State.{Core, OpenBatch}
use Rattle.fa_machine.specs.Taking.{with_answer}
use Rattle.std.proofs.Common.{List, None, Option, Some, [], ap, inl, inr, refl, sym, true, ℕ, ◌∙◌, ◌≡◌}
use Rattle.std.proofs.lemmas.Bool.{cases_eq}
use Rattle.std.specs.FinMap.{FinMap, contains_key, empty, insert}
use Rattle.std.specs.Ordering.{nat_cmp}
use Rattle.std.specs.Prelude.{is_some, unwrap_or}

-- no answer is noted where the batch is not open
pub not_open : (core : Core) (batch page : ℕ) (payload : List ℕ) (o : Option OpenBatch) → (is_some o ≡ true → ⊥)
    → core ≡ with_answer batch page payload o core
not_open core batch page payload None off = refl
not_open core batch page payload (Some b) off = absurd (off refl)

module _ (batches : FinMap nat_cmp OpenBatch) (batch : ℕ) (answers : FinMap nat_cmp (List ℕ)) where
  abbrev put : FinMap nat_cmp OpenBatch
  put = insert batches batch (record (opened batches batch) { answers = answers })

  -- the same batches are open
  pub as_open : contains_key batches batch ≡ true → (b : ℕ) → contains_key put b ≡ true → contains_key batches b ≡ true
  as_open there b is = elim (cases_eq b batch) [
    | inl same ↦ ap (contains_key batches) same ∙ there
    | inr apart ↦ ap is_some (sym (get-insert_other batches batch (record (opened batches batch) { answers = answers }) b apart)) ∙ is
  ]

  -- and they have the same pages
  pub same_pages : (b : ℕ) → (opened put b).pages ≡ (opened batches b).pages
  same_pages b = elim (cases_eq b batch) [
    | inl same ↦
        ap (λ n. (opened put n).pages) same
        ∙ ap (λ (o : Option OpenBatch). (unwrap_or o (record { pages = []; answers = empty })).pages)
        (get-insert_same batches batch (record (opened batches batch) { answers = answers }))
        ∙ ap (λ n. (opened batches n).pages) (sym same)
    | inr apart ↦
        ap (λ (o : Option OpenBatch). (unwrap_or o (record { pages = []; answers = empty })).pages)
        (get-insert_other batches batch (record (opened batches batch) { answers = answers }) b apart)
  ]
