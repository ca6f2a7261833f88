use Rattle.fa_core_bookings.specs.Bookings.{calendar_of}
use Rattle.std.proofs.Common.{◌≡◌, ℕ, ◌-◌, ◌<◌, ◌≤◌, None}
use Rattle.std.specs.FinMap.{get}
use Rattle.fa_core_upkeep.proofs.rounds.has_window.Given as goal

abbrev pub invariant-loop-die : goal.invariant-loop-die
invariant-loop-die g l = record {
  most : l.die ≤ 256;
  none : (k : ℕ) → k < l.die → get (calendar_of l.bookings).windows k ≡ None;
}

abbrev pub decreases-loop-die : goal.decreases-loop-die
decreases-loop-die g l = 256 - l.die
