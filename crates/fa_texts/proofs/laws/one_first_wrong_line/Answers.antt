use Rattle.std.proofs.Common.{◌≡◌, ℕ, ◌<◌, ◌≤◌, inl, inr, List, [], ◌∷◌, ◌++◌, length, refl, sym, ap, ◌∙◌, subst, arith, append_assoc}
use Rattle.std.proofs.lemmas.Bool.{cases_lt}
use Rattle.std.proofs.lemmas.List.{append-nil}
use Rattle.fa_texts.specs.BatchText.{StartsWithBatch}
use Rattle.fa_texts.specs.CertificateText.{IsSomeCertificate}
use Rattle.fa_texts.specs.Text.{GoesWrong, IsFirstWrongLine}
use Rattle.fa_batch_terms.proofs.Parts.{first_same, rest_same}
use Rattle.fa_texts.proofs.laws.one_first_wrong_line.Goals as goal

module _ (IsText : List (List (List ℕ)) → Type 0) where
  -- no text goes wrong
  goes_right : (lines before after : List (List (List ℕ))) → IsText lines → lines ≡ before ++ after → GoesWrong IsText before after → ⊥
  goes_right lines before [] text whole wrong = wrong (subst IsText (whole ∙ append-nil before) text)
  goes_right lines before (line ∷ after) text whole wrong = wrong (after, subst IsText (whole ∙ sym (append_assoc before (line ∷ []) after)) text)

  -- the longer of two fronts goes on behind the shorter as the whole does
  longer : (before after before' after' : List (List (List ℕ))) → before ++ after ≡ before' ++ after' → length before < length before'
      → (line : List (List ℕ)) × (rest more : List (List (List ℕ))) × (after ≡ line ∷ rest) × (before' ≡ (before ++ line ∷ []) ++ more)
  longer [] after [] after' is less = absurd (omega (arith, less))
  longer [] after (line ∷ before') after' is less = (line, before' ++ after', before', is, refl)
  longer (line ∷ before) after [] after' is less = absurd (omega (arith, less))
  longer (line ∷ before) after (line' ∷ before') after' is less =
      let more = longer before after before' after' (rest_same is) (omega (arith, less)) in
      (more.0, more.1, more.2, more.3, ap (λ v. line' ∷ v) more.4 ∙ ap (λ v. v ∷ ((before ++ more.0 ∷ []) ++ more.2)) (sym (first_same is)))

  -- the lines before a first wrong line are no longer than those before another
  no_later : (first number number' : ℕ) (lines : List (List (List ℕ))) → IsFirstWrongLine IsText first lines number → IsFirstWrongLine IsText first lines number' → number' ≤ number
  no_later first number number' lines one other =
      elim (cases_lt (length one.before) (length other.before)) [
        | inl less ↦ absurd (let more = longer one.before one.after other.before other.after (sym one.whole ∙ other.whole) less in
            subst (λ v. GoesWrong IsText one.before v) more.3 one.wrong
            (more.2 ++ other.begins.0, subst IsText (ap (λ v. v ++ other.begins.0) more.4 ∙ append_assoc (one.before ++ more.0 ∷ []) more.2 other.begins.0) other.begins.1))
        | inr more ↦ (let here = one.number_is in let there = other.number_is in omega (arith, more, here, there))
      ]

  one_line : (first number number' : ℕ) (lines : List (List (List ℕ))) → IsFirstWrongLine IsText first lines number → IsFirstWrongLine IsText first lines number' → number ≡ number'
  one_line first number number' lines one other =
      let low = no_later first number number' lines one other in
      let high = no_later first number' number lines other one in
      omega (arith, low, high)

pub returns-clause-batch : goal.returns-clause-batch
returns-clause-batch c = λ first number lines text fault. goes_right StartsWithBatch lines fault.before fault.after text fault.whole fault.wrong

pub returns-clause-one_of_batch : goal.returns-clause-one_of_batch
returns-clause-one_of_batch c = one_line StartsWithBatch

pub returns-clause-certificate : goal.returns-clause-certificate
returns-clause-certificate c = λ first number lines text fault. goes_right IsSomeCertificate lines fault.before fault.after text fault.whole fault.wrong

pub returns-clause-one_of_certificate : goal.returns-clause-one_of_certificate
returns-clause-one_of_certificate c = one_line IsSomeCertificate
