use Rattle.std.proofs.Common.{◌+◌, is_none, arith}
use Rattle.std.proofs.lemmas.Grind.{common_steps}
use Rattle.fa_map_calls.specs.Plain.{slot_at}
use Rattle.fa_map_calls.proofs.Ranges.{count_more}
use Rattle.fa_plain_map.proofs.plain_slots.count_erased.Goals as goal
use Rattle.fa_plain_map.proofs.plain_slots.count_erased.Goals.{then-is_none, else-is_none}

pub loop-slot-preserved : goal.loop-slot-preserved
loop-slot-preserved c =
    let more = count_more (λ slot. is_none (slot_at c.args.used.now (c.args.first + slot))) 0 c.loop-slot.slot in
    elim c.if-is_none.branch [
      | then-is_none w ↦ record { few = omega arith; counted = grind (arith, common_steps) }
      | else-is_none w ↦ record { few = omega arith; counted = grind (arith, common_steps) }
    ]
