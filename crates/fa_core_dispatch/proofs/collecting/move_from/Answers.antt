use Rattle.fa_core_dispatch.proofs.Steps.{place_inside}
use Rattle.std.proofs.Common.{sym}
use Rattle.fa_core_dispatch.proofs.collecting.move_from.Goals as goal

pub returns-in-Some-slot_for_move-clause-may : goal.returns-in-Some-slot_for_move-clause-may
returns-in-Some-slot_for_move-clause-may g c =
    place_inside (g.M.Map.view c.args.page_map.now) c.args.die.0 _ c.in-Some-slot_for_move.to.0
    (sym c.in-Some-slot_for_move.ensures)
