use Rattle.std.proofs.Common.{◌≡◌, ℕ, ◌++◌, length}
use Rattle.sha2.specs.Sha256.{hash_after, padding}
use Rattle.fa_lanes.specs.Hashing.{IsPadding}
use Rattle.fa_lanes.proofs.begun.Begun.finish.Given as goal

abbrev pub invariant-rounds : goal.invariant-rounds
invariant-rounds l = (n : ℕ) → IsPadding l.padding n (length l.tail) → l.hash ≡ hash_after l.fn.self.hash (l.tail ++ padding n) l.i
