use Rattle.fa_batch_terms.specs.declared.place.Place.{Place}
use Rattle.fa_core_bookings.specs.Bookings.{calendar_of}
use Rattle.fa_machine.specs.Reading.{booked, released}
use Rattle.fa_machine.specs.Rounds.{is_taken_with}
use Rattle.fa_core_read.proofs.replanning.replan_with.Goals as goal
use Rattle.fa_core_calls.specs.Answers.{planned_of}
use Rattle.fa_core_state.specs.Core.{core_of}
use Rattle.fa_types.specs.Open.{FewClosed}
use Rattle.fa_types.specs.Windows.{IsFull}
use Rattle.std.proofs.Common.{Err, List, ap, subst, ℕ, ◌∙◌}

pub returns-in-Ok-clause-replans : goal.returns-in-Ok-clause-replans
returns-in-Ok-clause-replans g c =
    let calendar = calendar_of c.args.state.now.bookings in let after = released c.args.batch.0 calendar in (
      (
        c.requires.held,
        c.requires.early,
        c.requires.planned,
        subst (λ (list : List Place). FewClosed calendar.round (is_taken_with after list)) c.as_slice.ensures c.in-Ok.ensures.fits,
      ),
      c.in-Ok.ensures.ok
          ∙ ap (λ (list : List Place). record (core_of g.M.Map.view c.args.state.now) { calendar = booked c.args.batch list after })
          c.as_slice.ensures,
    )

pub returns-in-Err-Full-clause-replans : goal.returns-in-Err-Full-clause-replans
returns-in-Err-Full-clause-replans g c =
    let calendar = calendar_of c.args.state.now.bookings in let after = released c.args.batch.0 calendar in (
      (
        c.requires.held,
        c.requires.early,
        (
          planned_of c.args.planned,
          c.requires.planned,
          subst (λ (list : List Place). (die : ℕ) × IsFull calendar.round (is_taken_with after list die) 0) c.as_slice.ensures
              (c.in-Err-Full.ensures.full (ap Err c.in-Err-Full.field-0-is)),
        ),
      ),
      c.in-Err-Full.ensures.err,
    )
