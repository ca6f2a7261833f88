use Rattle.std.proofs.Common.{◌≡◌, ◌+◌, ◌<◌, sym, subst}
use Rattle.fa_types.specs.declared.geometry.Geometry.{Geometry}
use Rattle.fa_map.specs.Chains.{entry_of, target}
use Rattle.fa_map_calls.specs.Plain.{die_slots}
use Rattle.fa_map.specs.declared.entries.Entry.TheVariants.{Current}
use Rattle.fa_map.proofs.Nexts.{link_told}
use Rattle.fa_map.proofs.Seen.{shown_held}
use Rattle.fa_map.proofs.page_map.PageMapMap.next_copy.Goals as goal

pub next-requires-clause-die : goal.next-requires-clause-die
next-requires-clause-die g c =
    let s = c.args.self.now in
    subst (λ (k : Geometry). c.args.die.0 < k.dies) (sym s.same)
    (shown_held s.history.shown s.geometry s.live.items s.live_dies s.tables.pages.versions s.tables.slots.entries s.sound c.args.page.0 c.args.die.0 c.args.slot.0 c.requires.copy).0

pub next-requires-clause-slot : goal.next-requires-clause-slot
next-requires-clause-slot g c =
    let s = c.args.self.now in
    subst (λ (k : Geometry). c.args.slot.0 < die_slots k) (sym s.same)
    (shown_held s.history.shown s.geometry s.live.items s.live_dies s.tables.pages.versions s.tables.slots.entries s.sound c.args.page.0 c.args.die.0 c.args.slot.0 c.requires.copy).1

pub next-requires-clause-holds : goal.next-requires-clause-holds
next-requires-clause-holds g c =
    let s = c.args.self.now in
    subst (λ (k : Geometry). entry_of s.tables.slots.entries (die_slots k) c.args.die.0 c.args.slot.0 ≡ Current c.args.page.0) (sym s.same)
    (shown_held s.history.shown s.geometry s.live.items s.live_dies s.tables.pages.versions s.tables.slots.entries s.sound c.args.page.0 c.args.die.0 c.args.slot.0 c.requires.copy).2

pub returns-clause-die : goal.returns-clause-die
returns-clause-die g c =
    let s = c.args.self.now in
    let held = shown_held s.history.shown s.geometry s.live.items s.live_dies s.tables.pages.versions s.tables.slots.entries s.sound c.args.page.0 c.args.die.0 c.args.slot.0 c.requires.copy in
    let entry = subst (λ (k : Geometry). entry_of s.tables.slots.entries (die_slots k) c.args.die.0 c.args.slot.0 ≡ Current c.args.page.0) (sym s.same) held.2 in
    (link_told s.history.shown s.geometry s.live.items s.live_dies s.tables.pages.versions s.tables.slots.entries s.sound s.tables.geometry s.same
    s.tables.sound.chained.once c.args.page.0 (c.args.die.0 + 1) (target c.next.result) (c.next.ensures.next entry) c.copy_at.result c.copy_at.ensures).0

pub returns-clause-slot : goal.returns-clause-slot
returns-clause-slot g c =
    let s = c.args.self.now in
    let held = shown_held s.history.shown s.geometry s.live.items s.live_dies s.tables.pages.versions s.tables.slots.entries s.sound c.args.page.0 c.args.die.0 c.args.slot.0 c.requires.copy in
    let entry = subst (λ (k : Geometry). entry_of s.tables.slots.entries (die_slots k) c.args.die.0 c.args.slot.0 ≡ Current c.args.page.0) (sym s.same) held.2 in
    (link_told s.history.shown s.geometry s.live.items s.live_dies s.tables.pages.versions s.tables.slots.entries s.sound s.tables.geometry s.same
    s.tables.sound.chained.once c.args.page.0 (c.args.die.0 + 1) (target c.next.result) (c.next.ensures.next entry) c.copy_at.result c.copy_at.ensures).1
