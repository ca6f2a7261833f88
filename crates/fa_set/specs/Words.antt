-- Numbers as bits of words.
use Rattle.std.specs.Prelude.{◌≡◌, ℕ, ◌/◌, ◌%◌, ◌≤◌, ◌==◌, nat_lt, Bool, true, false, List, Option, Some, None, slice_index_or}
use Rattle.std.specs.Int.{bit_at}

-- whether a number is among those of the words
abbrev pub has : List ℕ → ℕ → Bool
has words number = bit_at (slice_index_or words (number / 64) 0) (number % 64) == 1

-- no number of a word is left, or some are
abbrev pub IsEmptied : List ℕ → ℕ → Type 0
IsEmptied words word = (k : ℕ) → k / 64 ≡ word → has words k ≡ false

abbrev pub IsLeft : List ℕ → ℕ → Type 0
IsLeft words word = IsEmptied words word → ⊥

-- whether a number comes before what was found
abbrev pub is_before : ℕ → Option ℕ → Bool
is_before number None = true
is_before number (Some found) = nat_lt number found

-- the least number of a word from one of them on
pub record IsLowestInWord (words : List ℕ) (from : ℕ) (found : Option ℕ) : Type 0 where
  pub some : (k : ℕ) → found ≡ Some k → (from ≤ k) × (k / 64 ≡ from / 64) × (has words k ≡ true)
  pub before : (k : ℕ) → from ≤ k → k / 64 ≡ from / 64 → is_before k found ≡ true → has words k ≡ false

-- the least number from one on
pub record IsLowest (words : List ℕ) (from : ℕ) (found : Option ℕ) : Type 0 where
  pub some : (k : ℕ) → found ≡ Some k → (from ≤ k) × (has words k ≡ true)
  pub before : (k : ℕ) → from ≤ k → is_before k found ≡ true → has words k ≡ false
