-- How a hash value follows the blocks.
use Rattle.std.proofs.Common.{◌≡◌, ℕ, zero, suc, ◌+◌, ◌-◌, ◌*◌, ◌/◌, ◌%◌, ◌≤◌, List, ◌++◌, length, take, drop, arith, ap, refl, sym, ◌∙◌, add-suc, add-zero, length-append, length-drop}
use Rattle.std.proofs.lemmas.List.{drop-append-le, drop-drop}
use Rattle.std.proofs.Math.Seq.{drop-append_seam}
use Rattle.sha2.specs.Sha256.{compress, digest_bytes, hash_after, initial_hash_256, padded_message, padding, sha256}
use Rattle.sha2.proofs.Absorbing256.{hash_after-append, hash_after_next}
use Rattle.fa_lanes.specs.Hashing.{finished}

-- the next block, wherever its offset is said to be
pub taken_next : (ini p : List ℕ) (i at : ℕ) (before after : List ℕ) → at ≡ i * 64 → before ≡ hash_after ini p i
    → after ≡ compress before (take 64 (drop at p)) → after ≡ hash_after ini p (i + 1)
taken_next ini p i at before after place held next =
    next ∙ ap (λ (h : List ℕ). compress h (take 64 (drop at p))) held
    ∙ ap (λ (a : ℕ). compress (hash_after ini p i) (take 64 (drop a p))) place ∙ sym (hash_after_next ini p i)

-- a hash value is taken on from any block
pub hash_after-later : (ini p : List ℕ) (a k : ℕ) → hash_after ini p (a + k) ≡ hash_after (hash_after ini p a) (drop (a * 64) p) k
unfolding hash_after
hash_after-later ini p a zero = ap (hash_after ini p) (add-zero a)
hash_after-later ini p a (suc k) =
    let places : a * 64 + k * 64 ≡ (a + k) * 64 = omega arith in
    let block : drop (k * 64) (drop (a * 64) p) ≡ drop ((a + k) * 64) p = drop-drop (k * 64) (a * 64) p ∙ ap (λ (n : ℕ). drop n p) places in
    ap (hash_after ini p) (add-suc a k) ∙ rw (block, hash_after-later ini p a k) refl

-- the digest of the state after the last block
pub finished_from : (ini rest hash : List ℕ) (i : ℕ) → hash ≡ hash_after ini rest i → i ≡ length rest / 64
    → digest_bytes hash 8 ≡ finished ini rest
finished_from ini rest hash i held all =
    ap (λ (h : List ℕ). digest_bytes h 8) held ∙ ap (λ (n : ℕ). digest_bytes (hash_after ini rest n) 8) all

-- the digest of a message, from the state after some of its blocks
pub digest_from : (m : List ℕ) (count : ℕ) → count * 64 ≤ length m
    → sha256 m ≡ finished (hash_after initial_hash_256 m count) (drop (count * 64) m ++ padding (length m))
unfolding sha256
digest_from m count within =
    let p : List ℕ = padded_message m in
    let rest : List ℕ = drop (count * 64) m ++ padding (length m) in
    let size : length p ≡ length m + length (padding (length m)) = length-append m (padding (length m)) in
    let same : drop (count * 64) p ≡ rest = drop-append-le (count * 64) m (padding (length m)) within in
    let left : length rest ≡ length p - count * 64 = ap length (sym same) ∙ length-drop (count * 64) p in
    let blocks : length p / 64 ≡ count + length rest / 64 = omega arith in
    ap (λ (n : ℕ). digest_bytes (hash_after initial_hash_256 p n) 8) blocks
    ∙ ap (λ (h : List ℕ). digest_bytes h 8) (hash_after-later initial_hash_256 p count (length rest / 64)
    ∙ ap (λ (r : List ℕ). hash_after (hash_after initial_hash_256 p count) r (length rest / 64)) same
    ∙ ap (λ (h : List ℕ). hash_after h rest (length rest / 64)) (hash_after-append initial_hash_256 m (padding (length m)) count within))

-- the digest of one lane, where the tail is what the state does not have yet
pub digest_of_lane : (m tail state bytes : List ℕ) (count from n : ℕ) → from ≡ count * 64 → from ≤ length m → n ≡ length m
    → state ≡ hash_after initial_hash_256 m count → tail ≡ drop from m → bytes ≡ finished state (tail ++ padding n) → bytes ≡ sha256 m
digest_of_lane m tail state bytes count from n place within size held left digest =
    digest ∙ ap (λ (h : List ℕ). finished h (tail ++ padding n)) held
    ∙ ap (λ (t : List ℕ). finished (hash_after initial_hash_256 m count) (t ++ padding n)) (left ∙ ap (λ (a : ℕ). drop a m) place)
    ∙ ap (λ (k : ℕ). finished (hash_after initial_hash_256 m count) (drop (count * 64) m ++ padding k)) size
    ∙ sym (digest_from m count (omega arith))

-- the digest of a payload of whole blocks with a tail behind it
pub digest_of_begun : (payload tail state bytes : List ℕ) (n : ℕ) → length payload % 64 ≡ 0 → n ≡ length payload + length tail
    → state ≡ hash_after initial_hash_256 payload (length payload / 64) → bytes ≡ finished state (tail ++ padding n) → bytes ≡ sha256 (payload ++ tail)
digest_of_begun payload tail state bytes n whole size held digest =
    let count : ℕ = length payload / 64 in
    let both : length (payload ++ tail) ≡ length payload + length tail = length-append payload tail in
    let same : hash_after initial_hash_256 payload count ≡ hash_after initial_hash_256 (payload ++ tail) count =
    sym (hash_after-append initial_hash_256 payload tail count (omega arith)) in
    let front : length payload ≡ count * 64 = omega arith in
    let left : tail ≡ drop (count * 64) (payload ++ tail) = sym (drop-append_seam payload tail) ∙ ap (λ (a : ℕ). drop a (payload ++ tail)) front in
    digest_of_lane (payload ++ tail) tail state bytes count (count * 64) n refl (omega arith) (size ∙ sym both) (held ∙ same) left digest
