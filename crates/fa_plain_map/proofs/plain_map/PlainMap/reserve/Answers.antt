use Rattle.std.proofs.Common.{ℕ, ◌+◌, ◌*◌, ◌<◌, Some, refl, ap, subst, arith, set}
use Rattle.std.specs.Prelude.{IfSome}
use Rattle.fa_machine.specs.declared.places.Used.TheVariants.{Reserved}
use Rattle.fa_map_calls.proofs.Plain.{plain_used, slot_fits, told}
use Rattle.fa_plain_map.proofs.plain_map.PlainMap.reserve.Goals as goal

pub index_mut-requires : goal.index_mut-requires
index_mut-requires g c =
    let s = c.args.self.now in
    let within = subst (λ o. IfSome o (λ slot. slot < s.history.shown.geometry.blocks * s.history.shown.geometry.slots)) c.in-Some.is c.requires.slot in
    let fits = slot_fits s.history.shown s.geometry s.live.items s.live_dies s.versions.items s.used.items s.sound c.args.die.0 c.in-Some.slot c.requires.die within in
    omega (arith, fits, c.first_slot.ensures, s.used.ok.0)

pub invariant_of-self : goal.invariant_of-self
invariant_of-self g c =
    let s = c.args.self.now in
    let within = subst (λ o. IfSome o (λ slot. slot < s.history.shown.geometry.blocks * s.history.shown.geometry.slots)) c.in-Some.is c.requires.slot in
    let after = plain_used s.history.shown s.geometry s.live.items s.live_dies s.versions.items s.used.items s.sound c.args.die.0 c.in-Some.slot Reserved c.requires.die within refl in
    let at = ap (λ (k : ℕ). set s.used.items (k + c.in-Some.slot) (Some Reserved)) c.first_slot.ensures in
    record { sound = told s.geometry s.live.items s.versions.items _ c.note.new.history.shown _ s.live_dies _ _ c.note.ensures refl at after }
