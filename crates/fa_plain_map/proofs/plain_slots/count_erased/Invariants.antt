use Rattle.std.proofs.Common.{◌≡◌, ◌+◌, ◌≤◌, count_by, is_none}
use Rattle.fa_machine.specs.Maps.{below}
use Rattle.fa_map_calls.specs.Plain.{slot_at}
use Rattle.fa_plain_map.proofs.plain_slots.count_erased.Given as goal

abbrev pub invariant-loop-slot : goal.invariant-loop-slot
invariant-loop-slot l = record {
  few : l.erased ≤ l.slot;
  counted : l.erased ≡ count_by (λ slot. is_none (slot_at l.used (l.first + slot))) (below l.slot);
}
