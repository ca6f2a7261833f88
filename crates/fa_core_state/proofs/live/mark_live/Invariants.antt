use Rattle.std.proofs.Common.{◌≡◌, ℕ, ◌<◌}
use Rattle.fa_machine.specs.State.{is_live}
use Rattle.fa_set.specs.Members.{bound_of, members}
use Rattle.std.specs.FinMap.{contains_key}
use Rattle.fa_core_state.proofs.live.mark_live.Given as goal

abbrev pub invariant-loop-die : goal.invariant-loop-die
invariant-loop-die g l =
    (bound_of l.set ≡ bound_of l.initial.set)
    × ((k : ℕ) → k < l.die → contains_key (members l.set) k ≡ is_live (g.M.Map.view l.page_map) k)
