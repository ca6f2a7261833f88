use Rattle.std.proofs.Common.{◌≡◌, ℕ, nat_lt, if◌then◌else◌, option_map}
use Rattle.fa_machine.specs.Writing.{without_page}
use Rattle.fa_map_calls.specs.Plain.{slot_at}
use Rattle.fa_plain_map.proofs.plain_slots.retire.Given as goal

abbrev pub invariant-loop-index : goal.invariant-loop-index
invariant-loop-index l = (k : ℕ) → slot_at l.used k ≡ (if nat_lt k l.index then option_map (without_page l.page.0) (slot_at l.fn.used k) else slot_at l.fn.used k)
