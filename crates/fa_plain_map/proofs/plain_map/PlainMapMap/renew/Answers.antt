use Rattle.std.proofs.Common.{◌≡◌, ℕ, ◌+◌, ◌*◌, Some, Option, List, length, refl, ap, ◌∙◌, arith, set}
use Rattle.std.specs.Prelude.{option_map}
use Rattle.fa_machine.specs.declared.places.Used.{Used}
use Rattle.fa_machine.specs.Writing.{without_page}
use Rattle.fa_map_calls.specs.Plain.{die_slots, slot_at}
use Rattle.fa_map_calls.proofs.Plain.{plain_renewed, told}
use Rattle.fa_map_calls.proofs.Written.{whole_part}
use Rattle.fa_plain_map.proofs.plain_map.PlainMapMap.renew.Goals as goal

pub invariant_of-self : goal.invariant_of-self
invariant_of-self g c =
    let s = c.args.self.now in
    let t = c.retire.new.used in
    let long : length t ≡ length s.used.items = omega arith in
    let each : (k : ℕ) → slot_at t k ≡ option_map (without_page c.args.page.0) (slot_at s.used.items k) =
    λ k. c.retire.ensures k ∙ ap (λ (l : List (Option Used)). option_map (without_page c.args.page.0) (slot_at l k)) c.deref_mut.ensures.value in
    let after = plain_renewed s.history.shown s.geometry s.live.items s.live_dies s.versions.items s.used.items s.sound c.args.page.0 c.args.version t c.requires long
    (λ d k below. each (d * die_slots s.geometry + k)) in
    let part = whole_part s.used.len t s.used.items (omega (arith, long, s.used.ok.0)) in
    record { sound = told s.geometry s.live.items (set s.versions.items c.args.page.0 (Some c.args.version)) _ c.note.new.history.shown _ s.live_dies _ _ c.note.ensures refl part after }
