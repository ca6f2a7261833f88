use Rattle.fa_set.specs.Members.{bound_of, members}
use Rattle.std.proofs.Common.{◌≡◌}
use Rattle.std.specs.FinMap.{len}
use Rattle.fa_core_upkeep.proofs.rounds.clear.Given as goal

abbrev pub invariant-loop-number : goal.invariant-loop-number
invariant-loop-number g l = bound_of l.set ≡ bound_of l.initial.set

abbrev pub decreases-loop-number : goal.decreases-loop-number
decreases-loop-number g l = len (members l.set)
