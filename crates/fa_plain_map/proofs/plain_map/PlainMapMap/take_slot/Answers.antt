use Rattle.fa_map_calls.proofs.Taking.{writers_fits}
use Rattle.fa_plain_map.proofs.plain_map.PlainMapMap.take_slot.Goals as goal

pub reserve-requires-clause-slot : goal.reserve-requires-clause-slot
reserve-requires-clause-slot g c = writers_fits c.args.self.now.history.shown c.args.die.0 c.slot_for_writers-slot.result c.slot_for_writers-slot.ensures
