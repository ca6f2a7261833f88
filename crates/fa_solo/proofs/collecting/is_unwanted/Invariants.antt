use Rattle.fa_solo.proofs.Windows.{NoneBelow}
use Rattle.std.specs.Prelude.{false}
use Rattle.fa_solo.proofs.collecting.is_unwanted.Given as goal

abbrev pub invariant-loop-die : goal.invariant-loop-die
invariant-loop-die g l = NoneBelow false l.die l.inner.locked.core
