-- Numbers side by side: a vector has one number in each of its eight lanes, and a message one lane of each vector.
use Rattle.std.specs.Prelude.{◌≡◌, ℕ, ◌*◌, ◌<◌, List, length, [], map, slice_index, slice_index_or}
use Rattle.std.specs.Borrow.{Bor}
use Rattle.sha2.specs.Sha256.{word_at}

-- eight numbers, of which lane l has the one at l
pub record HasLanes (vector : List ℕ) (at : ℕ → ℕ) : Type 0 where
  pub size : length vector ≡ 8
  pub each : (l : ℕ) → l < 8 → slice_index vector l ≡ at l

-- one lane of several vectors
abbrev pub lane : List (List ℕ) → ℕ → List ℕ
lane vectors l = map (λ vector. slice_index vector l) vectors

-- the sixteen words of blocks side by side, of which lane l has those of this block
pub record HasBlock (words : List (List ℕ)) (l : ℕ) (block : List ℕ) : Type 0 where
  pub count : length words ≡ 16
  pub each : (k : ℕ) → k < 16 → slice_index (lane words l) k ≡ word_at block (4 * k)

-- the message of a lane
abbrev pub message : List (Bor (List ℕ)) → ℕ → List ℕ
message messages l = (slice_index_or messages l (record { ref_ptr = (0, 0); now = [] })).now
