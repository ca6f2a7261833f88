use Rattle.std.proofs.Common.{◌<◌, ℕ}
use Rattle.fa_mount.specs.Standings.{SharePlace}
use Rattle.fa_mount.proofs.fitting.has_twin.Given as goal

abbrev pub invariant-loop-other : goal.invariant-loop-other
invariant-loop-other l = (k : ℕ) → k < l.other → SharePlace l.dies l.die k → ⊥
