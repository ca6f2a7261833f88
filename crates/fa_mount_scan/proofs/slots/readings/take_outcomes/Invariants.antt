use Rattle.std.proofs.Common.{◌≡◌, length}
use Rattle.fa_mount_scan.specs.Readings.{AreFrom}
use Rattle.fa_mount_scan.proofs.ByDie.{AreUntouched}
use Rattle.fa_mount_scan.proofs.slots.readings.take_outcomes.Given as goal

abbrev pub invariant-loop-die : goal.invariant-loop-die
invariant-loop-die g l = record {
  as_many : length l.outcomes.items ≡ l.die;
  each : AreFrom l.fn.readings l.standings l.outcomes.items;
  room : length l.readings ≡ length l.fn.readings;
  untouched : AreUntouched l.standings l.fn.readings l.readings l.die;
}
