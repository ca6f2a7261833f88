use Rattle.std.proofs.Common.{◌∙◌}
use Rattle.fa_map.proofs.Seen.{shown_with}
use Rattle.fa_map.proofs.page_map.PageMapMap.next_with.Goals as goal

pub returns-in-Some : goal.returns-in-Some
returns-in-Some g c =
    let s = c.args.self.now in
    c.in-Some.ensures ∙ shown_with s.history.shown s.geometry s.live.items s.live_dies s.tables.pages.versions s.tables.slots.entries s.sound s.tables.geometry s.same c.args.count c.args.from.0

pub returns-in-None : goal.returns-in-None
returns-in-None g c =
    let s = c.args.self.now in
    c.in-None.ensures ∙ shown_with s.history.shown s.geometry s.live.items s.live_dies s.tables.pages.versions s.tables.slots.entries s.sound s.tables.geometry s.same c.args.count c.args.from.0
