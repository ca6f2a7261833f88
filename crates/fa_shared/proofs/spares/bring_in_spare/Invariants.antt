use Rattle.std.proofs.Common.{◌≡◌, ◌<◌, ℕ}
use Rattle.fa_shared_lock.specs.Rest.{LeavesRest}
use Rattle.fa_shared.specs.Spares.{IsNoSpare}
use Rattle.fa_shared.proofs.spares.bring_in_spare.Given as goal

abbrev pub invariant-loop-die : goal.invariant-loop-die
invariant-loop-die g l = record {
  same : l.locked.core ≡ l.fn.locked.core;
  none : (die : ℕ) → die < l.die → IsNoSpare l.fn.locked.core die;
  account : LeavesRest l.fn.locked l.fn.seat l.locked l.seat;
}
