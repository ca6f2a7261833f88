use Rattle.std.proofs.Common.{ℕ, ◌+◌, ◌*◌, ◌++◌, length}
use Rattle.std.specs.List.{All}
use Rattle.sha2.specs.Sha256.{padding, word_at}
use Rattle.fa_lanes.specs.Hashing.{IsPadding}
use Rattle.fa_lanes.specs.Lanes.{message}
use Rattle.fa_lanes.proofs.Loading.{Loaded}
use Rattle.fa_lanes.proofs.hash.last_words.Given as goal

abbrev pub invariant-load : goal.invariant-load
invariant-load l = (n : ℕ) → All (λ tail. IsPadding l.padding n (length tail.now)) l.tails
    → Loaded l.w l.k (λ i k. word_at (message l.tails i ++ padding n) (l.at + 4 * k))
