use Rattle.std.proofs.Common.{◌≡◌, ℕ, ◌+◌, true, is_none, Bool, sym, arith}
use Rattle.std.proofs.lemmas.Grind.{common_steps}
use Rattle.fa_map_calls.specs.Plain.{slot_at}
use Rattle.fa_map_calls.proofs.Ranges.{find_none, find_some}
use Rattle.fa_plain_map.proofs.plain_slots.find_erased.Goals as goal

pub returns-then-is_none : goal.returns-then-is_none
returns-then-is_none c =
    let test : ℕ → Bool = λ slot. is_none (slot_at c.args.used.now (c.args.first + slot)) in
    let passes : test c.loop-slot.slot ≡ true = grind (arith, common_steps) in
    sym (find_some test 0 c.args.count c.loop-slot.slot (omega arith) (omega arith) passes (λ k low below. c.loop-slot.invariant k below))

pub returns : goal.returns
returns c =
    let test : ℕ → Bool = λ slot. is_none (slot_at c.args.used.now (c.args.first + slot)) in
    sym (find_none test 0 c.args.count (λ k low high. c.loop-slot.invariant k (omega arith)))
