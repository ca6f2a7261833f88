use Rattle.std.proofs.Common.{◌≡◌, ℕ, ◌+◌, ◌*◌, ◌<◌, Bool, false, None, length, get_or, sym, ap, subst, ◌∙◌, arith, set}
use Rattle.fa_types.specs.declared.geometry.Geometry.{Geometry}
use Rattle.std.specs.Prelude.{if◌then◌else◌, nat_le, nat_lt, ◌&&◌, ◌-◌}
use Rattle.std.proofs.lemmas.List.{get_or_default}
use Rattle.fa_map_calls.specs.Plain.{die_slots, slot_at}
use Rattle.fa_map_calls.proofs.Indices.{in_die}
use Rattle.fa_map_calls.proofs.Plain.{plain_dropped, told}
use Rattle.fa_map_calls.proofs.Written.{whole_part}
use Rattle.fa_plain_map.proofs.plain_map.PlainMapMap.drop_die.Goals as goal

pub invariant_of-self : goal.invariant_of-self
invariant_of-self g c =
    let s = c.args.self.now in
    let t = c.erase_all.new.used in
    let fits = subst (λ (k : Geometry). c.args.die.0 < k.dies) s.sound.geometry c.requires in
    let long : length t ≡ length s.used.items = omega arith in
    let each : (k : ℕ) → slot_at t k ≡ (if nat_le (c.args.die.0 * die_slots s.geometry) k && nat_lt k (c.args.die.0 * die_slots s.geometry + die_slots s.geometry) then None else slot_at s.used.items k) =
    λ k. c.erase_all.ensures k
    ∙ (λ i. if nat_le (c.first_slot-first.ensures i) k && nat_lt k (c.first_slot-first.ensures i + c.slots_of_die.ensures i) then None else slot_at (c.deref_mut.ensures.value i) k) in
    let was : get_or s.live.items c.args.die.0 false ≡ c.index.result.now = get_or_default s.live.items c.args.die.0 false c.index.result.now (omega (arith, fits, s.sound.dies)) ∙ sym c.index.ensures in
    let less = c.less_one-self.ensures ∙ ap (λ (b : Bool). if b then s.live_dies - 1 else s.live_dies) (sym was) in
    let after = plain_dropped s.history.shown s.geometry s.live.items s.live_dies s.versions.items s.used.items s.sound c.args.die.0 t fits long
    (λ d k below. each (d * die_slots s.geometry + k) ∙ ap (λ b. if b then None else slot_at s.used.items (d * die_slots s.geometry + k)) (in_die d k c.args.die.0 (die_slots s.geometry) below)) in
    let part = whole_part s.used.len t s.used.items (omega (arith, long, s.used.ok.0)) in
    record { sound = told s.geometry (set s.live.items c.args.die.0 false) s.versions.items _ c.note.new.history.shown _ c.less_one-self.result _ _ c.note.ensures less part after }
