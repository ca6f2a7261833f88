use Rattle.std.proofs.Common.{arith, below_more, refl}
use Rattle.std.proofs.lemmas.Bool.{iff_false}
use Rattle.fa_mount.proofs.Apart.{apart_from_below}
use Rattle.fa_mount.proofs.fitting.are_apart.Goals as goal

pub loop-die-preserved : goal.loop-die-preserved
loop-die-preserved c = below_more _ _ c.loop-die.invariant (iff_false c.has_twin.ensures c.if-has_twin.false)

pub returns : goal.returns
returns c = (
  (λ is. apart_from_below c.args.dies.now c.loop-die.die (omega (arith, c.loop-die-test.false)) c.loop-die.invariant),
  (λ apart. refl),
)
