use Rattle.std.proofs.Common.{◌≡◌, ◌+◌, ◌≤◌, count_by, is_none}
use Rattle.fa_machine.specs.Copies.{is_held_slot, is_reserved_slot, is_stale_slot}
use Rattle.fa_machine.specs.Maps.{below}
use Rattle.fa_map_calls.specs.Plain.{slot_at}
use Rattle.fa_plain_map.proofs.plain_slots.count_states.Given as goal

abbrev pub invariant-loop-slot : goal.invariant-loop-slot
invariant-loop-slot l = record {
  few : l.erased + l.reserved + l.current + l.stale ≤ l.slot;
  erased : l.erased ≡ count_by (λ slot. is_none (slot_at l.used (l.first + slot))) (below l.slot);
  reserved : l.reserved ≡ count_by (λ slot. is_reserved_slot (slot_at l.used (l.first + slot))) (below l.slot);
  current : l.current ≡ count_by (λ slot. is_held_slot (slot_at l.used (l.first + slot))) (below l.slot);
  stale : l.stale ≡ count_by (λ slot. is_stale_slot (slot_at l.used (l.first + slot))) (below l.slot);
}
