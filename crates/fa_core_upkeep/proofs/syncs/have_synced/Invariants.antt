use Rattle.fa_core_upkeep.proofs.syncs.have_synced.Given as goal
use Rattle.fa_machine.specs.Flushing.{has_synced}
use Rattle.fa_core_state.specs.Core.{core_of}
use Rattle.std.proofs.Common.{◌≡◌, ℕ, ◌<◌, true}

abbrev pub invariant-loop-die : goal.invariant-loop-die
invariant-loop-die g l = (k : ℕ) → k < l.die → has_synced (core_of g.M.Map.view l.state) l.flush k ≡ true
