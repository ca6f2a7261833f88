use Rattle.fa_mount.proofs.Spares.{AreSparesBelow}
use Rattle.fa_set.specs.Members.{bound_of, members}
use Rattle.std.proofs.Common.{◌≡◌, length}
use Rattle.fa_mount.proofs.beginning.spares_of.Given as goal

abbrev pub invariant-loop-die : goal.invariant-loop-die
invariant-loop-die g l = (bound_of l.spares ≡ length l.dies) × AreSparesBelow l.dies (members l.spares) l.die
