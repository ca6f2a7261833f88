use Rattle.std.proofs.Common.{◌+◌, is_none, arith}
use Rattle.std.proofs.lemmas.Grind.{common_steps}
use Rattle.fa_machine.specs.Copies.{is_held_slot, is_reserved_slot, is_stale_slot}
use Rattle.fa_map_calls.specs.Plain.{slot_at}
use Rattle.fa_map_calls.proofs.Ranges.{count_more}
use Rattle.fa_plain_map.proofs.plain_slots.count_states.Goals as goal
use Rattle.fa_plain_map.proofs.plain_slots.count_states.Goals.{in-None, in-Some-Reserved, in-Some-Held, in-Some-Stale}

pub loop-slot-preserved : goal.loop-slot-preserved
loop-slot-preserved c =
    let erased = count_more (λ slot. is_none (slot_at c.args.used.now (c.args.first + slot))) 0 c.loop-slot.slot in
    let reserved = count_more (λ slot. is_reserved_slot (slot_at c.args.used.now (c.args.first + slot))) 0 c.loop-slot.slot in
    let current = count_more (λ slot. is_held_slot (slot_at c.args.used.now (c.args.first + slot))) 0 c.loop-slot.slot in
    let stale = count_more (λ slot. is_stale_slot (slot_at c.args.used.now (c.args.first + slot))) 0 c.loop-slot.slot in
    elim c.match-used-first.branch [
      | in-None w ↦ record { few = omega arith; erased = grind (arith, common_steps); reserved = grind (arith, common_steps); current = grind (arith, common_steps); stale = grind (arith, common_steps) }
      | in-Some-Reserved w ↦ record { few = omega arith; erased = grind (arith, common_steps); reserved = grind (arith, common_steps); current = grind (arith, common_steps); stale = grind (arith, common_steps) }
      | in-Some-Held w ↦ record { few = omega arith; erased = grind (arith, common_steps); reserved = grind (arith, common_steps); current = grind (arith, common_steps); stale = grind (arith, common_steps) }
      | in-Some-Stale w ↦ record { few = omega arith; erased = grind (arith, common_steps); reserved = grind (arith, common_steps); current = grind (arith, common_steps); stale = grind (arith, common_steps) }
    ]
