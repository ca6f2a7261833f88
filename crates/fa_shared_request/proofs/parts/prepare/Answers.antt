use Rattle.std.proofs.Common.{arith}
use Rattle.fa_shared_request.proofs.Counts.{counts_on}
use Rattle.fa_shared_request.proofs.PartTallies.{part_counts, part_stays}
use Rattle.fa_shared_request.proofs.parts.prepare.Goals as goal

pub loop-part-preserved : goal.loop-part-preserved
loop-part-preserved g c =
    λ commits.
    counts_on _ _ _ (c.loop-part.invariant commits)
    (part_counts commits commits c.loop-part.part-items c.loop-part.part-index _ c.part-item.result
    (omega (arith, c.loop-part-test.true, c.loop-part.auto.part-items)) (c.prepare_part.ensures commits))

pub loop-part-preserved-then-not-takes_turn : goal.loop-part-preserved-then-not-takes_turn
loop-part-preserved-then-not-takes_turn g c =
    λ commits.
    counts_on _ _ _ (c.loop-part.invariant commits)
    (part_stays commits c.loop-part.part-items c.loop-part.part-index c.part-item.result
    (omega (arith, c.loop-part-test.true, c.loop-part.auto.part-items)))
