use Rattle.fa_batch_terms.specs.Batch.{Entry}
use Rattle.fa_batch_terms.specs.Certificate.{IsCertificate}
use Rattle.fa_closed.specs.Closed.{current_of, is_closed}
use Rattle.fa_batch_terms.specs.Plan.{AreFirstRounds}
use Rattle.fa_core_bookings.specs.Bookings.{calendar_of}
use Rattle.fa_machine.specs.Reading.{IsPlanned, entries_for, left_of, released}
use Rattle.fa_plan.specs.declared.planner.Planned.{Planned}
use Rattle.fa_core_read.proofs.Answered.{ok_both}
use Rattle.fa_core_read.proofs.Handed.{handed_out}
use Rattle.fa_core_read.proofs.Planned.{planned_against}
use Rattle.fa_core_read.proofs.replanning.plan_left.Goals as goal
use Rattle.fa_core_calls.specs.Answers.{planned_of}
use Rattle.fa_core_state.specs.Core.{core_of}
use Rattle.std.proofs.Common.{List, ap, length, subst, ℕ, ◌∙◌}
use Rattle.std.proofs.lemmas.List.{length-map}

pub returns-then-is_sound : goal.returns-then-is_sound
returns-then-is_sound g c =
    let state = c.args.state.now in let m = g.M.Map.view state.page_map in let batch = c.args.batch.0 in
    let calendar = released batch (calendar_of state.bookings) in let pages = left_of (core_of g.M.Map.view state) batch in
    let closed = is_closed c.in_ok-closed.closed in let current = current_of c.in_ok-closed.closed in
    record {
      planned = ok_both
          (λ (planned : Planned g.row.A.Denot).
          IsCertificate c.list_entries.new.entries current closed planned.rounds planned.plan.places planned.shortage)
          (λ planned. AreFirstRounds current closed planned.plan.places)
          (λ planned. IsPlanned m calendar pages (planned_of planned))
          (λ planned certificate first. planned_against m calendar pages closed c.in_ok-closed.ensures.closed (planned_of planned)
          (subst (λ (n : ℕ). IsCertificate (entries_for m pages) n closed planned.rounds planned.plan.places planned.shortage)
          c.in_ok-closed.ensures.current
          (subst (λ (entries : List Entry). IsCertificate entries current closed planned.rounds planned.plan.places planned.shortage)
          c.in_ok-list_entries.ensures certificate))
          (subst (λ (n : ℕ). AreFirstRounds n closed planned.plan.places) c.in_ok-closed.ensures.current first))
          c.plan_in.result c.plan_in.ensures.certificate c.plan_in.ensures.first;
      handed = handed_out (length c.list_entries.new.entries) (length pages) (ap length c.in_ok-list_entries.ensures ∙ length-map pages _)
          c.plan_in.result c.plan_in.ensures.rounds c.plan_in.ensures.counted c.plan_in.ensures.most c.plan_in.ensures.looks;
    }
