use Rattle.std.proofs.Common.{ap, ◌∙◌, get_or, take}
use Rattle.fa_machine.specs.State.{MapState, is_live}
use Rattle.fa_machine.specs.declared.places.Used.TheVariants.{Reserved}
use Rattle.fa_core_write.proofs.Placed.{still_fits}
use Rattle.fa_core_write.proofs.placing.reserve_slots.Goals as goal

pub reserve_slot-requires-clause-die : goal.reserve_slot-requires-clause-die
reserve_slot-requires-clause-die g c =
    let at = get_or c.args.slots.now c.loop-index.index _ in
    ap (λ (m : MapState). is_live m at.die.0) c.loop-index.invariant ∙ (c.requires c.loop-index.index _ c.loop-index-test.true).live

pub reserve_slot-requires-clause-slot : goal.reserve_slot-requires-clause-slot
reserve_slot-requires-clause-slot g c =
    still_fits Reserved (take c.loop-index.index c.args.slots.now) (g.M.Map.view c.args.page_map.now) (g.M.Map.view c.loop-index.page_map) _
    c.loop-index.invariant (c.requires c.loop-index.index _ c.loop-index-test.true).fits
