-- Words in wide lanes: a vector has four lanes of 64 bits, and a word stands in the low half of each.
use Rattle.std.specs.Prelude.{◌≡◌, ℕ, ◌+◌, ◌*◌, ◌%◌, ◌^◌, ◌<◌, List, length, map, slice_index, All}
use Rattle.sha2.specs.Sha256.{word_at}

-- the word in the low half of a lane
abbrev pub low : List ℕ → ℕ → ℕ
low vector l = slice_index vector l % 2 ^ 32

-- four lanes, of which lane l has the word at l in its low half
pub record HasLow (vector : List ℕ) (at : ℕ → ℕ) : Type 0 where
  pub size : length vector ≡ 4
  pub each : (l : ℕ) → l < 4 → low vector l ≡ at l

-- four lanes, each with one word in both halves
pub record IsTwice (vector : List ℕ) : Type 0 where
  pub size : length vector ≡ 4
  pub each : (l : ℕ) → l < 4 → slice_index vector l ≡ low vector l * 2 ^ 32 + low vector l

abbrev pub AreTwice : List (List ℕ) → Type 0
AreTwice vectors = All IsTwice vectors

-- the words in one lane of several vectors
abbrev pub wide_lane : List (List ℕ) → ℕ → List ℕ
wide_lane vectors l = map (λ vector. low vector l) vectors

-- the sixteen words of blocks side by side, of which lane l has those of this block
pub record HasWideBlock (words : List (List ℕ)) (l : ℕ) (block : List ℕ) : Type 0 where
  pub count : length words ≡ 16
  pub each : (k : ℕ) → k < 16 → slice_index (wide_lane words l) k ≡ word_at block (4 * k)
