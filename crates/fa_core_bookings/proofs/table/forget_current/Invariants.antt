use Rattle.std.proofs.Common.{◌-◌, ◌≤◌}
use Rattle.fa_core_bookings.proofs.Forgotten.{IsForgotten}
use Rattle.fa_calendar.specs.Calendar.{current_of}
use Rattle.fa_core_bookings.proofs.table.forget_current.Given as goal

abbrev pub invariant-loop-die : goal.invariant-loop-die
invariant-loop-die g l = record {
  most : l.die ≤ 256;
  forgotten : IsForgotten (current_of l.calendar) l.die l.initial.booked.entries l.booked.entries;
}

abbrev pub decreases-loop-die : goal.decreases-loop-die
decreases-loop-die g l = 256 - l.die
