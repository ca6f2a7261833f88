use Rattle.fa_map_calls.proofs.Taking.{writers_fits}
use Rattle.fa_map.proofs.page_map.PageMapMap.take_slot.Goals as goal

pub reserve-requires-clause-slot : goal.reserve-requires-clause-slot
reserve-requires-clause-slot g c =
    writers_fits c.args.self.now.history.shown c.args.die.0 c.found_for_writers-found.result.slot c.found_for_writers-found.ensures.slot
