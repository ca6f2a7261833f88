use Rattle.std.proofs.Common.{Some, ap, ◌∙◌}
use Rattle.fa_map_calls.specs.Plain.{die_slots}
use Rattle.fa_types.specs.declared.geometry.Geometry.{Geometry}
use Rattle.std.specs.Prelude.{find}
use Rattle.fa_machine.specs.Maps.{below}
use Rattle.fa_map.specs.Entries.{may_take}
use Rattle.fa_map.proofs.Seen.{shown_outside}
use Rattle.fa_map.proofs.page_map.PageMap.found_outside.Goals as goal

pub returns-clause-slot : goal.returns-clause-slot
returns-clause-slot g c =
    let s = c.args.self.now in
    c.lowest_erased.ensures.slot
    ∙ ap (λ (k : Geometry). find (may_take s.tables.slots.entries (die_slots k) k.slots c.args.die.0 (Some c.args.block.0)) (below (die_slots k))) s.same
    ∙ shown_outside s.history.shown s.geometry s.live.items s.live_dies s.tables.pages.versions s.tables.slots.entries s.sound c.args.die.0 c.args.block.0
