-- Messages of which the first whole blocks were hashed.
use Rattle.std.specs.Prelude.{◌≡◌, ℕ, ◌/◌, ◌%◌, List, [], length, slice_index_or}
use Rattle.sha2.specs.Sha256.{hash_after, initial_hash_256}
use Rattle.fa_lanes.specs.declared.begun.Begun.{Begun}

-- this payload was hashed, a whole number of blocks, and nothing behind it
pub record IsBegun (begun : Begun) (payload : List ℕ) : Type 0 where
  pub whole : length payload % 64 ≡ 0
  pub bytes : begun.bytes ≡ length payload
  pub hash : begun.hash ≡ hash_after initial_hash_256 payload (length payload / 64)

-- one of several
abbrev pub begun_at : List Begun → ℕ → Begun
begun_at begun l = slice_index_or begun l (record { hash = []; bytes = 0 })
