use Rattle.std.proofs.Common.{arith, below_more}
use Rattle.std.proofs.lemmas.Bool.{false≢true, iff_false}
use Rattle.fa_mount.proofs.fitting.has_twin.Goals as goal

pub loop-other-preserved : goal.loop-other-preserved
loop-other-preserved c = below_more _ _ c.loop-other.invariant (iff_false c.share_place.ensures c.if-share_place.false)

pub returns : goal.returns
returns c = (
  (λ is. absurd (false≢true is)),
  (λ (other, less, share). absurd (c.loop-other.invariant other (omega (arith, less, c.loop-other-test.false)) share)),
)
