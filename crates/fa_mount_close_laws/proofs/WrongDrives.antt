-- What is no drive.
use Rattle.fa_image.specs.Image.{ImageAnswer, ImageCall}
use Rattle.fa_machine.specs.Cells.{Outcome}
use Rattle.fa_machine.specs.Step.{Done}
use Rattle.fa_machine.specs.Taking.{Handed}
use Rattle.fa_machine.specs.World.{Work, outcome_of}
use Rattle.fa_mount_close_laws.specs.Drives.{Driven, HasEvent, MakesNext}
use Rattle.std.proofs.Common.{List, None, Some, [], ap, sym, ℕ, ◌∙◌, ◌≡◌}
use Rattle.std.proofs.lemmas.Option.{none-some}
use Rattle.std.specs.Prelude.{option_and_then}

module _ {I : Type 0} (old new : Driven I) (die : ℕ) where
  pub told_so : (work : Work) (outcome : Outcome) → old.works die ≡ Some work → HasEvent old (Done die outcome) new
      → outcome_of die work.job work.gave ≡ Some outcome
  told_so work outcome is event =
      sym (ap (option_and_then (λ (k : Work). outcome_of die k.job k.gave)) is) ∙ event.owed

  pub too_early : (job : Handed) (outcome : Outcome) → old.works die ≡ Some (record { job = job; gave = [] })
      → ¬ (HasEvent old (Done die outcome) new)
  too_early job outcome is event = none-some outcome (told_so (record { job = job; gave = [] }) outcome is event)

  pub not_untaken : (made : I → ImageCall → ImageAnswer → I → Type 0) (array : List ℕ) → old.works die ≡ None → ¬ (MakesNext made array old die new)
  not_untaken made array is makes = none-some makes.work (sym is ∙ makes.has.works)
