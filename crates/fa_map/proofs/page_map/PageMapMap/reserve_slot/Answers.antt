use Rattle.std.proofs.Common.{◌+◌, ◌*◌, refl, ap, ◌∙◌, set}
use Rattle.fa_map_calls.specs.Plain.{die_slots}
use Rattle.fa_types.specs.declared.geometry.Geometry.{Geometry}
use Rattle.fa_machine.specs.declared.places.Used.TheVariants as used
use Rattle.fa_map.specs.declared.entries.Entry.TheVariants.{Reserved}
use Rattle.fa_map.proofs.Seen.{shown_told, shown_used}
use Rattle.fa_map.proofs.page_map.PageMapMap.reserve_slot.Goals as goal

pub invariant_of-self : goal.invariant_of-self
invariant_of-self g c =
    let s = c.args.self.now in
    record {
      sound = shown_told c.note.ensures refl refl c.put.ensures.versions
          (c.put.ensures.entries ∙ ap (λ k. set s.tables.slots.entries (c.args.die.0 * k + c.args.slot.0) Reserved) (ap die_slots s.same))
          (shown_used s.history.shown s.geometry s.live.items s.live_dies s.tables.pages.versions s.tables.slots.entries s.sound c.args.die.0 c.args.slot.0 used.Reserved Reserved c.requires.die c.requires.slot refl refl refl (s.tables.sound.tallied.slots ∙ ap (λ (k : Geometry). k.dies * die_slots k) s.same));
      same = c.put.ensures.geometry ∙ s.same;
      few = s.few;
    }
