use Rattle.std.proofs.Common.{◌+◌, ap, arith, sym, ◌∙◌}
use Rattle.fa_batch_terms.proofs.Parts.{nothing}
use Rattle.fa_core_bookings.proofs.Closed.{none_beyond}
use Rattle.fa_core_bookings.proofs.Forgotten.{all_forgotten, free_skipped, none_forgotten, one_forgotten}
use Rattle.fa_core_bookings.specs.Booked.{booking_at}
use Rattle.fa_calendar.specs.Calendar.{current_of}
use Rattle.std.specs.Prelude.{is_some}
use Rattle.fa_core_bookings.proofs.table.forget_current.Goals as goal

pub loop-die-init : goal.loop-die-init
loop-die-init g c =
    let current = current_of c.args.calendar.now in
    let old = c.args.booked.now.entries in
    record {
      most = c.busy_from-die.ensures.most;
      forgotten = free_skipped current 0 c.busy_from-die.result old old (none_forgotten current old) c.busy_from-die.ensures.behind
          (λ d low high. nothing (booking_at old d current) (sym (c.requires d current) ∙ c.busy_from-die.ensures.booked d current low high));
    }

pub forget_one-requires : goal.forget_one-requires
forget_one-requires g c =
    let current = current_of c.args.calendar.now in
    c.requires c.loop-die.die current ∙ sym (ap is_some (c.loop-die.invariant.forgotten.later c.loop-die.die (omega arith)))

pub loop-die-preserved : goal.loop-die-preserved
loop-die-preserved g c =
    let current = current_of c.args.calendar.now in
    let old = c.args.booked.now.entries in
    let next = c.busy_from-die-in-loop-die in
    record {
      most = next.ensures.most;
      forgotten = free_skipped current (c.loop-die.die + 1) next.result old c.forget_one.new.booked.entries
          (one_forgotten current c.loop-die.die old c.loop-die.booked.entries c.forget_one.new.booked.entries c.loop-die.invariant.forgotten
          c.forget_one.ensures)
          next.ensures.behind
          (λ d low high. nothing (booking_at old d current) (sym (c.requires d current) ∙ next.ensures.booked d current low high));
    }

pub returns : goal.returns
returns g c =
    let current = current_of c.args.calendar.now in
    let old = c.args.booked.now.entries in
    all_forgotten current c.loop-die.die old c.loop-die.booked.entries c.loop-die.invariant.forgotten
    (λ d high. nothing (booking_at old d current) (sym (c.requires d current)
    ∙ none_beyond c.args.calendar.now d current (omega (arith, high, c.loop-die-test.false))))
