use Rattle.std.proofs.Common.{ap, ◌∙◌, arith}
use Rattle.std.proofs.Common.{None}
use Rattle.fa_map_calls.specs.Plain.{die_slots}
use Rattle.fa_types.specs.declared.geometry.Geometry.{Geometry}
use Rattle.std.specs.Prelude.{find}
use Rattle.fa_machine.specs.Maps.{below}
use Rattle.fa_map.specs.Entries.{may_take}
use Rattle.fa_map.proofs.Seen.{shown_lowest}
use Rattle.fa_map_calls.proofs.Taking.{writers_lowest}
use Rattle.fa_map.proofs.page_map.PageMap.found_for_writers.Goals as goal

pub returns-clause-slot : goal.returns-clause-slot
returns-clause-slot g c =
    let s = c.args.self.now in
    c.lowest_erased-found.ensures.slot
    ∙ ap (λ (k : Geometry). find (may_take s.tables.slots.entries (die_slots k) k.slots c.args.die.0 None) (below (die_slots k))) s.same
    ∙ shown_lowest s.history.shown s.geometry s.live.items s.live_dies s.tables.pages.versions s.tables.slots.entries s.sound c.args.die.0
    ∙ writers_lowest s.history.shown c.args.die.0 (omega arith)
