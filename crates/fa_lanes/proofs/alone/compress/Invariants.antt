use Rattle.std.proofs.Common.{ℕ, List, ◌*◌}
use Rattle.sha2.specs.Sha256.{IsRoundsAt}
use Rattle.fa_lanes.specs.Hashing.{HasWords}
use Rattle.fa_lanes.proofs.alone.compress.Given as goal

abbrev pub invariant-schedule : goal.invariant-schedule
invariant-schedule l = (b : List ℕ) → HasWords l.fn.words b → IsRoundsAt b l.hash l.w l.v (16 * l.turn)
