use Rattle.std.proofs.Common.{◌≡◌, ℕ, ◌+◌, ◌*◌, ◌<◌, false, refl, sym, ap, subst, ◌∙◌, set}
use Rattle.fa_map_calls.specs.Plain.{die_slots}
use Rattle.fa_types.specs.declared.geometry.Geometry.{Geometry}
use Rattle.fa_map.specs.Chains.{entry_of}
use Rattle.fa_map.specs.Entries.{is_current_entry}
use Rattle.fa_map.specs.declared.entries.Entry.TheVariants.{Current}
use Rattle.fa_map.proofs.Seen.{kept_free, kept_once, shown_kept, shown_told}
use Rattle.fa_map.proofs.page_map.PageMapMap.hold.Goals as goal

pub add_copy-requires-clause-free : goal.add_copy-requires-clause-free
add_copy-requires-clause-free g c =
    let s = c.args.self.now in
    subst (λ (k : Geometry). is_current_entry (entry_of s.tables.slots.entries (die_slots k) c.args.die.0 c.args.slot.0) ≡ false) (sym s.same)
    (kept_free s.history.shown s.geometry s.live.items s.live_dies s.tables.pages.versions s.tables.slots.entries s.sound c.args.page c.args.version c.args.die.0 c.args.slot.0 c.requires)

pub add_copy-requires-clause-once : goal.add_copy-requires-clause-once
add_copy-requires-clause-once g c =
    let s = c.args.self.now in
    subst (λ (k : Geometry). (other : ℕ) → other < die_slots k → entry_of s.tables.slots.entries (die_slots k) c.args.die.0 other ≡ Current c.args.page.0 → ⊥) (sym s.same)
    (kept_once s.history.shown s.geometry s.live.items s.live_dies s.tables.pages.versions s.tables.slots.entries s.sound c.args.page c.args.version c.args.die.0 c.args.slot.0 c.requires)

pub invariant_of-self : goal.invariant_of-self
invariant_of-self g c =
    let s = c.args.self.now in
    let written = c.add_copy.ensures.entries ∙ ap (λ (k : Geometry). set s.tables.slots.entries (c.args.die.0 * die_slots k + c.args.slot.0) (Current c.args.page.0)) s.same in
    record {
      sound =
          shown_told c.note.ensures refl refl c.add_copy.ensures.versions written
          (shown_kept s.history.shown s.geometry s.live.items s.live_dies s.tables.pages.versions s.tables.slots.entries s.sound c.args.page c.args.version c.args.die.0 c.args.slot.0 c.requires
          (s.tables.sound.tallied.slots ∙ ap (λ (k : Geometry). k.dies * die_slots k) s.same));
      same = c.add_copy.ensures.geometry ∙ s.same;
      few = s.few;
    }
