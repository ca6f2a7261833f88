use Rattle.fa_map_calls.proofs.Taking.{outside_fits}
use Rattle.fa_map.proofs.page_map.PageMapMap.take_slot_outside.Goals as goal

pub reserve-requires-clause-slot : goal.reserve-requires-clause-slot
reserve-requires-clause-slot g c =
    outside_fits c.args.self.now.history.shown c.args.die.0 c.args.block.0 c.found_outside-found.result.slot c.found_outside-found.ensures.slot
