use Rattle.fa_machine.specs.Turning.{is_round_pending}
use Rattle.fa_core_state.specs.Core.{core_of}
use Rattle.std.proofs.Common.{◌≡◌, ℕ, ◌-◌, ◌<◌, ◌≤◌, false}
use Rattle.fa_core_upkeep.proofs.rounds.is_pending.Given as goal

abbrev pub invariant-loop-die : goal.invariant-loop-die
invariant-loop-die g l = record {
  most : l.die ≤ 256;
  settled : (k : ℕ) → k < l.die → is_round_pending (core_of g.M.Map.view l.state) k ≡ false;
}

abbrev pub decreases-loop-die : goal.decreases-loop-die
decreases-loop-die g l = 256 - l.die
