use Rattle.std.proofs.Common.{ap}
use Rattle.std.proofs.Common.{◌≡◌, ℕ, ◌+◌, ◌*◌, ◌<◌, None, length, refl, subst, ◌∙◌, arith}
use Rattle.fa_types.specs.declared.geometry.Geometry.{Geometry}
use Rattle.std.specs.Prelude.{if◌then◌else◌, nat_le, nat_lt, not, ◌&&◌}
use Rattle.fa_machine.specs.Copies.{is_reserved_slot}
use Rattle.fa_map_calls.specs.Plain.{die_slots, slot_at}
use Rattle.fa_map_calls.proofs.Indices.{die_fits, in_die_block}
use Rattle.fa_map_calls.proofs.Plain.{live_fits, plain_erased, told}
use Rattle.fa_map_calls.proofs.Written.{whole_part}
use Rattle.fa_plain_map.proofs.plain_map.PlainMapMap.block_erased.Goals as goal

pub erase_unreserved-requires : goal.erase_unreserved-requires
erase_unreserved-requires g c =
    let s = c.args.self.now in
    let block = subst (λ (k : Geometry). c.args.block.0 < k.blocks) s.sound.geometry c.requires.block in
    let low = live_fits s.history.shown s.geometry s.live.items s.live_dies s.versions.items s.used.items s.sound c.args.die.0 c.requires.die in
    let room = die_fits c.args.block.0 s.geometry.blocks s.geometry.slots block in
    let all = die_fits c.args.die.0 s.geometry.dies (die_slots s.geometry) low in
    omega (arith, room, all, c.first_slot.ensures, c.deref_mut.ensures.len, s.used.ok.0, s.sound.slots)

pub invariant_of-self : goal.invariant_of-self
invariant_of-self g c =
    let s = c.args.self.now in
    let t = c.erase_unreserved.new.used in
    let block = subst (λ (k : Geometry). c.args.block.0 < k.blocks) s.sound.geometry c.requires.block in
    let long : length t ≡ length s.used.items = omega arith in
    let low = c.args.block.0 * s.geometry.slots in
    let each : (k : ℕ) → slot_at t k ≡ (if nat_le (c.args.die.0 * die_slots s.geometry + low) k && nat_lt k (c.args.die.0 * die_slots s.geometry + low + s.geometry.slots)
    && not (is_reserved_slot (slot_at s.used.items k)) then None else slot_at s.used.items k) =
    λ k. c.erase_unreserved.ensures k
    ∙ (λ i. if nat_le (c.first_slot.ensures i + low) k && nat_lt k (c.first_slot.ensures i + low + s.geometry.slots)
    && not (is_reserved_slot (slot_at (c.deref_mut.ensures.value i) k)) then None else slot_at (c.deref_mut.ensures.value i) k) in
    let after = plain_erased s.history.shown s.geometry s.live.items s.live_dies s.versions.items s.used.items s.sound c.args.die.0 c.args.block.0 t long
    (λ d k below. each (d * die_slots s.geometry + k)
    ∙ ap (λ b. if b && not (is_reserved_slot (slot_at s.used.items (d * die_slots s.geometry + k))) then None else slot_at s.used.items (d * die_slots s.geometry + k))
    (in_die_block d k c.args.die.0 c.args.block.0 s.geometry.blocks s.geometry.slots (omega arith) block below)) in
    let part = whole_part s.used.len t s.used.items (omega (arith, long, s.used.ok.0)) in
    record { sound = told s.geometry s.live.items s.versions.items _ c.note.new.history.shown _ s.live_dies _ _ c.note.ensures refl part after }
