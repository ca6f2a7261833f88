use Rattle.std.proofs.Common.{◌≡◌, ◌≤◌, ◌-◌, length}
use Rattle.fa_calendar.specs.Dies.{AllHaveRoom, AreIdle}
use Rattle.fa_calendar.proofs.Passing.{HasPassed}
use Rattle.fa_calendar.proofs.dies.pass_all.Given as goal

abbrev pub invariant-loop-die : goal.invariant-loop-die
invariant-loop-die g l = record {
  long : length l.dies.items ≡ 256;
  roomy : AllHaveRoom l.dies.items;
  most : l.die ≤ 256;
  passed : HasPassed l.round l.die l.initial.dies.items l.dies.items;
  idle : AreIdle l.busy l.dies.items;
}

abbrev pub decreases-loop-die : goal.decreases-loop-die
decreases-loop-die g l = 256 - l.die
