-- How many bytes a part has, and what is left of it by a write.
use Rattle.std.proofs.Common.{◌≡◌, ℕ, ◌+◌, ◌≤◌, List, length, arith, length-append, length-take, length-drop}
use Rattle.fa_types.specs.Store.{with_bytes, bytes_at}

-- a write keeps the length
pub length-with_bytes : (offset : ℕ) (bytes content : List ℕ) → offset + length bytes ≤ length content
    → length (with_bytes offset bytes content) ≡ length content
length-with_bytes offset bytes content fits = simp (length-append, length-take, length-drop) (omega arith)

-- a part that lies within the bytes has its length
pub length-bytes_at : (offset len : ℕ) (content : List ℕ) → offset + len ≤ length content → length (bytes_at offset len content) ≡ len
length-bytes_at offset len content fits = simp (length-take, length-drop) (omega arith)
