use Rattle.std.proofs.Common.{count_by, ap, ◌∙◌}
use Rattle.fa_types.specs.declared.geometry.Geometry.{Geometry}
use Rattle.fa_machine.specs.Maps.{below}
use Rattle.fa_map.specs.Entries.{die_holds}
use Rattle.fa_map_calls.specs.Plain.{die_slots}
use Rattle.fa_map.proofs.Seen.{shown_holders}
use Rattle.fa_map.proofs.page_map.PageMapMap.copies_of.Goals as goal

pub returns : goal.returns
returns g c =
    let s = c.args.self.now in
    c.copies_of.ensures
    ∙ ap (λ (k : Geometry). count_by (die_holds s.tables.slots.entries (die_slots k) c.args.page.0) (below k.dies)) s.same
    ∙ shown_holders s.history.shown s.geometry s.live.items s.live_dies s.tables.pages.versions s.tables.slots.entries s.sound c.args.page.0
