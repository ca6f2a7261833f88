use Rattle.std.proofs.Common.{ℕ, ap, ◌∙◌}
use Rattle.fa_map_calls.specs.Plain.{die_slots}
use Rattle.fa_map.specs.Entries.{entries_in}
use Rattle.fa_map_calls.specs.declared.slots.SlotState.TheVariants as states
use Rattle.fa_map.proofs.Seen.{shown_free}
use Rattle.fa_map.proofs.page_map.PageMapMap.free.Goals as goal

pub returns : goal.returns
returns g c =
    let s = c.args.self.now in
    c.erased.ensures ∙ ap (λ (k : ℕ). entries_in s.tables.slots.entries k c.args.die.0 0 k states.Erased) (ap die_slots s.same) ∙ shown_free s.history.shown s.geometry s.live.items s.live_dies s.tables.pages.versions s.tables.slots.entries s.sound c.args.die.0
