use Rattle.fa_core_upkeep.proofs.syncs.has_live_die.Given as goal
use Rattle.fa_machine.specs.State.{is_live}
use Rattle.std.proofs.Common.{◌≡◌, ℕ, ◌<◌, ◌&&◌, false, slice_index_or}

abbrev pub invariant-loop-die : goal.invariant-loop-die
invariant-loop-die g l = (k : ℕ) → k < l.die
    → (slice_index_or l.flush.live k false && is_live (g.M.Map.view l.page_map) k) ≡ false
