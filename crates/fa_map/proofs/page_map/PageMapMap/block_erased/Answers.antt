use Rattle.std.proofs.Common.{◌≡◌, ℕ, ◌*◌, ◌/◌, ◌<◌, ◌==◌, ◌&&◌, if◌then◌else◌, refl, sym, ap, subst, ◌∙◌}
use Rattle.fa_map_calls.specs.Plain.{die_slots}
use Rattle.fa_types.specs.declared.geometry.Geometry.{Geometry}
use Rattle.fa_map.specs.Chains.{entry_of}
use Rattle.fa_map.specs.Entries.{erased_entry}
use Rattle.fa_map.proofs.Seen.{shown_erased, shown_told}
use Rattle.fa_map.proofs.page_map.PageMapMap.block_erased.Goals as goal

pub invariant_of-self : goal.invariant_of-self
invariant_of-self g c =
    let s = c.args.self.now in
    let new = c.erase_block.new.self.slots.entries in
    let each = subst (λ (k : Geometry). (d slot : ℕ) → slot < die_slots k → entry_of new (die_slots k) d slot
    ≡ (if d == c.args.die.0 && slot / k.slots == c.args.block.0 then erased_entry (entry_of s.tables.slots.entries (die_slots k) d slot) else entry_of s.tables.slots.entries (die_slots k) d slot)) s.same c.erase_block.ensures.entries in
    let long = c.erase_block.new.self.sound.tallied.slots ∙ ap (λ (k : Geometry). k.dies * die_slots k) c.erase_block.ensures.geometry ∙ sym s.tables.sound.tallied.slots in
    record {
      sound =
          shown_told c.note.ensures refl refl c.erase_block.ensures.versions refl
          (shown_erased s.history.shown s.geometry s.live.items s.live_dies s.tables.pages.versions s.tables.slots.entries s.sound c.args.die.0 c.args.block.0 new long each);
      same = c.erase_block.ensures.geometry ∙ s.same;
      few = s.few;
    }
