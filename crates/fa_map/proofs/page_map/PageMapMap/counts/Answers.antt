use Rattle.std.proofs.Common.{◌*◌, ◌<◌, ap, subst, ◌∙◌}
use Rattle.fa_map_calls.specs.Plain.{die_slots}
use Rattle.fa_types.specs.declared.geometry.Geometry.{Geometry}
use Rattle.fa_map.specs.Entries.{entries_in}
use Rattle.fa_map_calls.specs.declared.slots.SlotState.{SlotState}
use Rattle.fa_map_calls.specs.declared.slots.SlotState.TheVariants as states
use Rattle.fa_map.proofs.Seen.{shown_count_in}
use Rattle.fa_map.proofs.page_map.PageMapMap.counts.Goals as goal

pub returns : goal.returns
returns g c =
    let s = c.args.self.now in
    let fits = subst (λ (k : Geometry). c.args.block.0 < k.blocks) s.sound.plain.geometry c.requires.block in
    let is = λ (state : SlotState).
    c.counts.ensures state ∙ ap (λ (k : Geometry). entries_in s.tables.slots.entries (die_slots k) c.args.die.0 (c.args.block.0 * k.slots) k.slots state) s.same
    ∙ shown_count_in s.history.shown s.geometry s.live.items s.live_dies s.tables.pages.versions s.tables.slots.entries s.sound state c.args.die.0 c.args.block.0 fits in
    (is states.Erased, is states.Reserved, is states.Current, is states.Stale)
