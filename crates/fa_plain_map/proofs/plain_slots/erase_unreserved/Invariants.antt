use Rattle.std.proofs.Common.{◌≡◌, ℕ, ◌&&◌, not, nat_le, nat_lt, if◌then◌else◌, None}
use Rattle.fa_machine.specs.Copies.{is_reserved_slot}
use Rattle.fa_map_calls.specs.Plain.{slot_at}
use Rattle.fa_plain_map.proofs.plain_slots.erase_unreserved.Given as goal

abbrev pub invariant-loop-index : goal.invariant-loop-index
invariant-loop-index l = (k : ℕ) → slot_at l.used k
    ≡ (if nat_le l.first k && nat_lt k l.index && not (is_reserved_slot (slot_at l.fn.used k)) then None else slot_at l.fn.used k)
