use Rattle.std.proofs.Common.{◌≡◌, ℕ, ◌<◌}
use Rattle.sha2.specs.Sha256.{hash_after, initial_hash_256}
use Rattle.fa_lanes.specs.Lanes.{lane, message}
use Rattle.fa_lanes.proofs.hash.take_blocks.Given as goal

abbrev pub invariant-rounds : goal.invariant-rounds
invariant-rounds l = (lane_number : ℕ) → lane_number < 8
    → lane l.state lane_number ≡ hash_after initial_hash_256 (message l.messages lane_number) l.i
