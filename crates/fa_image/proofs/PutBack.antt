-- Slots in a vector whose bytes are read and written in part.
use Rattle.std.proofs.Common.{◌≡◌, ℕ, ◌+◌, ◌*◌, ◌<◌, ◌≤◌, List, [], ◌∷◌, ◌++◌, length, take, drop, replicate, ap, sym, ◌∙◌, slice_index_or, arith}
use Rattle.std.proofs.lemmas.List.{take_at, length-replicate}
use Rattle.fa_types.specs.Store.{with_bytes, bytes_at}
use Rattle.fa_types.proofs.Lengths.{length-with_bytes}
use Rattle.fa_image.specs.Cut.{cut}
use Rattle.fa_image.specs.Cuts.{slot-cut, cut-with_bytes, cut-one, cut-replicate, part_fits}
use Rattle.fa_image.specs.Image.{with_slots}

-- the bytes of a slot, read through the slice of a vector's elements, which are told in slots of n bytes
pub slot_part : (count size n slot : ℕ) (part slice items : List ℕ) → part ≡ bytes_at (slot * n) n slice → n ≡ size → slice ≡ items → slot < count
    → part ≡ slice_index_or (cut count size items) slot []
slot_part count size n slot part slice items is n_is same below =
    is
    ∙ ap (λ (k : ℕ). bytes_at (slot * k) k slice) n_is
    ∙ ap (λ (l : List ℕ). bytes_at (slot * size) size l) same
    ∙ sym (slot-cut count size slot items below)

-- the slots after a write through the slice of a vector's elements
pub put_back : (count size at k len : ℕ) (bytes old items new : List ℕ) → new ≡ with_bytes (at * size) bytes old → old ≡ items
    → length items ≡ count * size → length old ≡ len → at + k ≤ count → length bytes ≡ k * size
    → cut count size (take len (new ++ drop (length new) items)) ≡ with_slots at (cut k size bytes) (cut count size items)
put_back count size at k len bytes old items new put same whole len_is fits is =
    let room = part_fits at k count size fits in
    let old_len : length old ≡ count * size = ap (λ (l : List ℕ). length l) same ∙ whole in
    let kept : length new ≡ length old = ap (λ (l : List ℕ). length l) put ∙ length-with_bytes (at * size) bytes old (omega arith) in
    ap (λ (l : List ℕ). cut count size l)
    (take_at new (drop (length new) items) len (kept ∙ len_is) ∙ put ∙ ap (λ (l : List ℕ). with_bytes (at * size) bytes l) same)
    ∙ cut-with_bytes count size at k bytes items fits is whole

-- the same for one slot
pub put_one : (count size at len : ℕ) (bytes old items new : List ℕ) → new ≡ with_bytes (at * size) bytes old → old ≡ items
    → length items ≡ count * size → length old ≡ len → at < count → length bytes ≡ size
    → cut count size (take len (new ++ drop (length new) items)) ≡ with_slots at (bytes ∷ []) (cut count size items)
put_one count size at len bytes old items new put same whole len_is below is =
    put_back count size at 1 len bytes old items new put same whole len_is (omega arith) (omega arith)
    ∙ ap (λ (l : List (List ℕ)). with_slots at l (cut count size items)) (cut-one size bytes is)

-- the same for k slots of one byte v
pub put_filled : (count size at k len v : ℕ) (old items new : List ℕ)
    → new ≡ with_bytes (at * size) (replicate (k * size) v) old → old ≡ items
    → length items ≡ count * size → length old ≡ len → at + k ≤ count
    → cut count size (take len (new ++ drop (length new) items)) ≡ with_slots at (replicate k (replicate size v)) (cut count size items)
put_filled count size at k len v old items new put same whole len_is fits =
    put_back count size at k len (replicate (k * size) v) old items new put same whole len_is fits (length-replicate (k * size) v)
    ∙ ap (λ (l : List (List ℕ)). with_slots at l (cut count size items)) (cut-replicate k size v)
