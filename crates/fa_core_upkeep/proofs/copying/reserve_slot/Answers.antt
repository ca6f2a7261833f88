use Rattle.fa_core_upkeep.proofs.Placed.{takes_writes}
use Rattle.std.proofs.Common.{sym}
use Rattle.fa_core_upkeep.proofs.copying.reserve_slot.Goals as goal

pub copy_to-requires-clause-place : goal.copy_to-requires-clause-place
copy_to-requires-clause-place g c =
    takes_writes (g.M.Map.view c.args.state.now.page_map) (g.met.M.Map.whole c.args.state.now.page_map) c.args.state.now.copies.number
    c.args.page.0 c.in-Some-copy_place.die.0 (sym c.in-Some-copy_place.ensures)

pub copy_to-requires-in-Hole-clause-place : goal.copy_to-requires-in-Hole-clause-place
copy_to-requires-in-Hole-clause-place g c =
    takes_writes (g.M.Map.view c.args.state.now.page_map) (g.met.M.Map.whole c.args.state.now.page_map) c.args.state.now.copies.number
    c.args.page.0 c.in-Some-copy_place.die.0 (sym c.in-Some-copy_place.ensures)
