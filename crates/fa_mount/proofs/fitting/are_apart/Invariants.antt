use Rattle.std.proofs.Common.{◌<◌, ℕ}
use Rattle.fa_mount.specs.Standings.{SharePlace}
use Rattle.fa_mount.proofs.fitting.are_apart.Given as goal

abbrev pub invariant-loop-die : goal.invariant-loop-die
invariant-loop-die l = (die : ℕ) → die < l.die → ((other : ℕ) × (other < die) × SharePlace l.dies die other) → ⊥
