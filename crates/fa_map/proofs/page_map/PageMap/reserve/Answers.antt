use Rattle.std.proofs.Common.{◌+◌, ◌*◌, ◌<◌, ◌≤◌, refl, ap, subst, ◌∙◌, set}
use Rattle.fa_map_calls.specs.Plain.{die_slots}
use Rattle.fa_types.specs.declared.geometry.Geometry.{Geometry}
use Rattle.fa_machine.specs.declared.places.Used.TheVariants as used
use Rattle.fa_map.specs.declared.entries.Entry.TheVariants.{Reserved}
use Rattle.fa_map.proofs.Seen.{shown_told, shown_used}
use Rattle.std.specs.Prelude.{IfSome}
use Rattle.fa_map.proofs.page_map.PageMap.reserve.Goals as goal

pub invariant_of-self-in-Some : goal.invariant_of-self-in-Some
invariant_of-self-in-Some g c =
    let s = c.args.self.now in
    let within = subst (λ o. IfSome o (λ slot. slot < s.history.shown.geometry.blocks * s.history.shown.geometry.slots)) c.in-Some.is c.requires.slot in
    record {
      sound = shown_told c.note.ensures refl refl c.put.ensures.versions
          (c.put.ensures.entries ∙ ap (λ k. set s.tables.slots.entries (c.args.die.0 * k + c.in-Some.slot) Reserved) (ap die_slots s.same))
          (shown_used s.history.shown s.geometry s.live.items s.live_dies s.tables.pages.versions s.tables.slots.entries s.sound c.args.die.0 c.in-Some.slot used.Reserved Reserved c.requires.die within refl refl refl (s.tables.sound.tallied.slots ∙ ap (λ (k : Geometry). k.dies * die_slots k) s.same));
      same = c.put.ensures.geometry ∙ s.same;
      few = subst (λ (k : Geometry). c.args.looks ≤ k.blocks + k.slots + 1) s.sound.plain.geometry c.requires.looks;
    }
