use Rattle.std.proofs.Common.{◌≡◌, false}
use Rattle.fa_shared_lock.specs.Rest.{LeavesRest}
use Rattle.fa_workers.specs.Windows.{GivesWindows}
use Rattle.fa_workers.proofs.collecting.give_windows.Given as goal

abbrev pub invariant-loop-die : goal.invariant-loop-die
invariant-loop-die g l = record {
  gives : GivesWindows l.rounds l.fn.locked.core l.die l.locked.core;
  same : l.locked.core.page_map.geometry ≡ l.fn.locked.core.page_map.geometry;
  nothing : l.given ≡ false → l.locked.core ≡ l.fn.locked.core;
  account : LeavesRest l.fn.locked l.fn.seat l.locked l.seat;
}
