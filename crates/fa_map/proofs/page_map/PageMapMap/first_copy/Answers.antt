use Rattle.fa_map.specs.Chains.{target}
use Rattle.fa_map.proofs.Nexts.{link_told}
use Rattle.fa_map.proofs.page_map.PageMapMap.first_copy.Goals as goal

pub returns-clause-die : goal.returns-clause-die
returns-clause-die g c =
    let s = c.args.self.now in
    (link_told s.history.shown s.geometry s.live.items s.live_dies s.tables.pages.versions s.tables.slots.entries s.sound s.tables.geometry s.same
    s.tables.sound.chained.once c.args.page.0 0 (target c.first.result) c.first.ensures c.copy_at.result c.copy_at.ensures).0

pub returns-clause-slot : goal.returns-clause-slot
returns-clause-slot g c =
    let s = c.args.self.now in
    (link_told s.history.shown s.geometry s.live.items s.live_dies s.tables.pages.versions s.tables.slots.entries s.sound s.tables.geometry s.same
    s.tables.sound.chained.once c.args.page.0 0 (target c.first.result) c.first.ensures c.copy_at.result c.copy_at.ensures).1
