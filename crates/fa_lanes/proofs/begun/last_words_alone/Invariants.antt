use Rattle.std.proofs.Common.{◌≡◌, ℕ, ◌+◌, ◌*◌, ◌<◌, ◌++◌, length, slice_index}
use Rattle.sha2.specs.Sha256.{padding, word_at}
use Rattle.fa_lanes.specs.Hashing.{IsPadding}
use Rattle.fa_lanes.proofs.begun.last_words_alone.Given as goal

abbrev pub invariant-load : goal.invariant-load
invariant-load l = (length l.words ≡ 16) × ((n : ℕ) → IsPadding l.padding n (length l.tail)
    → (i : ℕ) → i < l.k → slice_index l.words i ≡ word_at (l.tail ++ padding n) (l.at + 4 * i))
