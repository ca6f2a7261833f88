use Rattle.std.proofs.Common.{◌≡◌, ℕ, ◌<◌}
use Rattle.sha2.specs.Sha256.{hash_after, initial_hash_256}
use Rattle.fa_lanes.specs.Lanes.{message}
use Rattle.fa_lanes.specs.Wide.{AreTwice, wide_lane}
use Rattle.fa_lanes.proofs.four.take_blocks_of_four.Given as goal

abbrev pub invariant-rounds : goal.invariant-rounds
invariant-rounds l = record {
  lanes : (lane_number : ℕ) → lane_number < 4
      → wide_lane l.state lane_number ≡ hash_after initial_hash_256 (message l.messages lane_number) l.i;
  twice : AreTwice l.state;
}
