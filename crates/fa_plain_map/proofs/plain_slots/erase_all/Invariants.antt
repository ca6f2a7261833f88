use Rattle.std.proofs.Common.{◌≡◌, ℕ, ◌&&◌, nat_le, nat_lt, if◌then◌else◌, None}
use Rattle.fa_map_calls.specs.Plain.{slot_at}
use Rattle.fa_plain_map.proofs.plain_slots.erase_all.Given as goal

abbrev pub invariant-loop-index : goal.invariant-loop-index
invariant-loop-index l = (k : ℕ) → slot_at l.used k ≡ (if nat_le l.first k && nat_lt k l.index then None else slot_at l.fn.used k)
