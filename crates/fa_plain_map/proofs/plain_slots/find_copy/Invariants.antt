use Rattle.std.proofs.Common.{◌≡◌, ℕ, ◌+◌, ◌<◌, false}
use Rattle.fa_map_calls.specs.Plain.{holds, slot_at}
use Rattle.fa_plain_map.proofs.plain_slots.find_copy.Given as goal

abbrev pub invariant-loop-slot : goal.invariant-loop-slot
invariant-loop-slot l = (k : ℕ) → k < l.slot → holds l.page.0 (slot_at l.used (l.first + k)) ≡ false
