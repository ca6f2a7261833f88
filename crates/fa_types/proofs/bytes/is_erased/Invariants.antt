use Rattle.std.proofs.Common.{drop, length, ◌-◌, ◌==◌, ◌≡◌, ◌≤◌}
use Rattle.std.specs.List.{list_all}
use Rattle.fa_types.proofs.bytes.is_erased.Given as goal

abbrev pub invariant-loop-at : goal.invariant-loop-at
invariant-loop-at l = (l.at ≤ length l.bytes) × (list_all (λ byte. byte == 0xff) l.bytes ≡ list_all (λ byte. byte == 0xff) (drop l.at l.bytes))

abbrev pub decreases-loop-at : goal.decreases-loop-at
decreases-loop-at l = length l.bytes - l.at
