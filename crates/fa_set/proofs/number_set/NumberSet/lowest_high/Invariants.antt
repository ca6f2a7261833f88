use Rattle.std.proofs.Common.{◌≡◌, ℕ, ◌/◌, ◌<◌, ◌≤◌, false}
use Rattle.fa_set.specs.Words.{has}
use Rattle.fa_set.proofs.number_set.NumberSet.lowest_high.Given as goal

abbrev pub invariant-loop-word : goal.invariant-loop-word
invariant-loop-word g l = record {
  first : l.from ≤ l.first;
  word : l.first / 64 ≡ l.word;
  bare : (k : ℕ) → l.from ≤ k → k < l.first → has l.self.high.items k ≡ false;
}
