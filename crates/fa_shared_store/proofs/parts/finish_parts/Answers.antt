use Rattle.fa_shared_request.proofs.PartTallies.{parts_further, parts_prepared}
use Rattle.fa_shared_store.proofs.parts.finish_parts.Goals as goal

pub loop-preserved : goal.loop-preserved
loop-preserved g c =
    parts_further _ _ _ _ _ _ c.loop.invariant
    (parts_further _ _ _ _ _ _ (parts_prepared c.loop.seat c.loop.parts c.prepare.new.parts c.prepare.ensures) c.make_turns.ensures)
