use Rattle.std.proofs.Common.{ℕ, ◌+◌, Some, refl, ap, arith, set}
use Rattle.fa_machine.specs.declared.places.Used.TheVariants.{Held}
use Rattle.fa_map_calls.proofs.Plain.{plain_kept, slot_fits, told}
use Rattle.fa_plain_map.proofs.plain_map.PlainMapMap.hold.Goals as goal

pub index_mut-requires : goal.index_mut-requires
index_mut-requires g c =
    let s = c.args.self.now in
    let fits = slot_fits s.history.shown s.geometry s.live.items s.live_dies s.versions.items s.used.items s.sound c.args.die.0 c.args.slot.0 c.requires.live c.requires.slot_fits in
    omega (arith, fits, c.first_slot.ensures, s.used.ok.0)

pub invariant_of-self : goal.invariant_of-self
invariant_of-self g c =
    let s = c.args.self.now in
    let after = plain_kept s.history.shown s.geometry s.live.items s.live_dies s.versions.items s.used.items s.sound c.args.page c.args.version c.args.die.0 c.args.slot.0 c.requires in
    let at = ap (λ (k : ℕ). set s.used.items (k + c.args.slot.0) (Some (Held c.args.page c.args.version))) c.first_slot.ensures in
    record { sound = told s.geometry s.live.items s.versions.items _ c.note.new.history.shown _ s.live_dies _ _ c.note.ensures refl at after }
