-- Levels of words: each number of a level stands for a word of the level below.
use Rattle.std.specs.Prelude.{◌≡◌, ℕ, ◌+◌, ◌/◌, ◌<◌, true, List, length}
use Rattle.fa_set.specs.Words.{IsLeft, has}

-- the numbers of a level are the words of the one below that have numbers
pub record IsAbove (below above : List ℕ) : Type 0 where
  pub up : (k : ℕ) → has below k ≡ true → has above (k / 64) ≡ true
  pub down : (word : ℕ) → has above word ≡ true → IsLeft below word

-- three levels, for numbers below a bound
pub record AreLevels (bound : ℕ) (low middle high : List ℕ) : Type 0 where
  pub low_words : length low ≡ bound / 64 + 1
  pub middle_words : length middle ≡ bound / 64 / 64 + 1
  pub high_words : length high ≡ bound / 64 / 64 / 64 + 1
  pub inside : (k : ℕ) → has low k ≡ true → k < bound
  pub middle_above : IsAbove low middle
  pub high_above : IsAbove middle high
