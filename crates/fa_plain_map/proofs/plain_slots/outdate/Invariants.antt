use Rattle.std.proofs.Common.{◌≡◌, ℕ, nat_lt, if◌then◌else◌, option_map}
use Rattle.fa_map_calls.specs.Changes.{outdated}
use Rattle.fa_map_calls.specs.Plain.{slot_at}
use Rattle.fa_plain_map.proofs.plain_slots.outdate.Given as goal

abbrev pub invariant-loop-index : goal.invariant-loop-index
invariant-loop-index l = (k : ℕ) → slot_at l.used k ≡ (if nat_lt k l.index then option_map (outdated l.page.0 l.version) (slot_at l.fn.used k) else slot_at l.fn.used k)
