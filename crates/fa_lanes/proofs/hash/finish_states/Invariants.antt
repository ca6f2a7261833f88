use Rattle.std.proofs.Common.{◌≡◌, ℕ, ◌<◌, ◌++◌, length}
use Rattle.std.specs.List.{All}
use Rattle.sha2.specs.Sha256.{hash_after, padding}
use Rattle.fa_lanes.specs.Hashing.{IsPadding}
use Rattle.fa_lanes.specs.Lanes.{lane, message}
use Rattle.fa_lanes.proofs.hash.finish_states.Given as goal

abbrev pub invariant-rounds : goal.invariant-rounds
invariant-rounds l = (n : ℕ) → All (λ tail. IsPadding l.padding n (length tail.now)) l.tails → (lane_number : ℕ) → lane_number < 8
    → lane l.state lane_number ≡ hash_after (lane l.initial.state lane_number) (message l.tails lane_number ++ padding n) l.i
