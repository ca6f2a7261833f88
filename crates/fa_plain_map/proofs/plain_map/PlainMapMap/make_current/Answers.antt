use Rattle.std.proofs.Common.{◌≡◌, ℕ, ◌*◌, ◌+◌, Some, Option, List, length, refl, ap, ◌∙◌, arith, set}
use Rattle.std.specs.Prelude.{option_map}
use Rattle.fa_machine.specs.declared.places.Used.{Used}
use Rattle.fa_machine.specs.declared.places.Used.TheVariants.{Held}
use Rattle.fa_map_calls.specs.Changes.{outdated}
use Rattle.fa_map_calls.specs.Plain.{die_slots, slot_at}
use Rattle.fa_map_calls.proofs.Plain.{plain_current, slot_fits, told}
use Rattle.fa_map_calls.proofs.Written.{whole_part}
use Rattle.fa_plain_map.proofs.plain_map.PlainMapMap.make_current.Goals as goal

pub index_mut-requires : goal.index_mut-requires
index_mut-requires g c =
    let s = c.args.self.now in
    let fits = slot_fits s.history.shown s.geometry s.live.items s.live_dies s.versions.items s.used.items s.sound c.args.die.0 c.args.slot.0 c.requires.live c.requires.slot_fits in
    omega (arith, fits, c.first_slot.ensures, s.used.ok.0)

pub invariant_of-self : goal.invariant_of-self
invariant_of-self g c =
    let s = c.args.self.now in
    let t = c.outdate.new.used in
    let long : length t ≡ length s.used.items = omega arith in
    let each : (k : ℕ) → slot_at t k ≡ option_map (outdated c.args.page.0 c.args.version) (slot_at s.used.items k) =
    λ k. c.outdate.ensures k ∙ ap (λ (l : List (Option Used)). option_map (outdated c.args.page.0 c.args.version) (slot_at l k)) c.deref_mut.ensures.value in
    let after = plain_current s.history.shown s.geometry s.live.items s.live_dies s.versions.items s.used.items s.sound c.args.page c.args.version c.args.die.0 c.args.slot.0 t c.requires long (λ d k below. each (d * die_slots s.geometry + k)) in
    let part = whole_part s.used.len t s.used.items (omega (arith, long, s.used.ok.0)) in
    record { sound = told s.geometry s.live.items (set s.versions.items c.args.page.0 (Some c.args.version)) _ c.note.new.history.shown _ s.live_dies _ _ c.note.ensures refl (λ i. set (part i) (c.first_slot.ensures i + c.args.slot.0) (Some (Held c.args.page c.args.version))) after }
