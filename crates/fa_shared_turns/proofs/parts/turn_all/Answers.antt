use Rattle.std.proofs.Common.{arith}
use Rattle.fa_shared_request.proofs.PartTallies.{part_went, parts_further}
use Rattle.fa_shared_turns.proofs.parts.turn_all.Goals as goal

pub loop-part-preserved : goal.loop-part-preserved
loop-part-preserved g c =
    parts_further _ _ _ _ _ _ c.loop-part.invariant
    (part_went _ _ c.loop-part.part-items c.loop-part.part-index _ c.part-item.result
    (omega (arith, c.loop-part-test.true, c.loop-part.auto.part-items)) c.turn_on-turn.ensures)
