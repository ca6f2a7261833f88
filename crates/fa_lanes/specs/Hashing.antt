-- What is left to be hashed of a message whose first whole blocks were taken in.
use Rattle.std.specs.Prelude.{◌≡◌, ℕ, ◌+◌, ◌-◌, ◌*◌, ◌/◌, ◌%◌, ◌^◌, ◌<◌, List, length, slice_index}
use Rattle.std.specs.Int.{w64, to_be_bytes}
use Rattle.sha2.specs.Sha256.{digest_bytes, hash_after, word_at}
use Rattle.fa_lanes.specs.declared.tail.Padding.{Padding}

-- the padding of a message of so many bytes, of which a tail is left: where its length stands, from where the tail
-- begins, and the length in bits (FIPS 180-4, 5.1.1)
pub record IsPadding (padding : Padding) (bytes tail : ℕ) : Type 0 where
  pub end : padding.end ≡ tail + 1 + (119 - bytes % 64) % 64
  pub length : padding.length ≡ to_be_bytes w64 (bytes * 8 % 2 ^ 64)

-- the digest that a hash value comes to with the last blocks
abbrev pub finished : List ℕ → List ℕ → List ℕ
finished hash blocks = digest_bytes (hash_after hash blocks (length blocks / 64)) 8

-- the sixteen words of a block
pub record HasWords (words block : List ℕ) : Type 0 where
  pub count : length words ≡ 16
  pub each : (k : ℕ) → k < 16 → slice_index words k ≡ word_at block (4 * k)
