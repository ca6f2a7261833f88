-- A refused write that changed nothing has left the bytes that stood there.
use Rattle.std.proofs.Common.{◌≡◌, ℕ, zero, suc, ◌+◌, ◌*◌, ◌<◌, ◌≤◌, List, [], ◌∷◌, ◌++◌, length, take, drop, ap, sym, ◌∙◌, arith}
use Rattle.std.proofs.Common.{append_assoc, length-take, length-drop}
use Rattle.std.proofs.Math.Nat.{add-mul, mul-le-mul_right}
use Rattle.std.proofs.lemmas.List.{take-append-drop, drop-drop}
use Rattle.std.specs.List.{AllByRecursion}
use Rattle.fa_image.specs.Image.{ImageState, IsImage, LeavesSlots, with_slots, slot_bytes, slot_count, one_more, faulted}

module _ (size : ℕ) where
  take_sized : (k : ℕ) (slots : List (List ℕ)) → AllByRecursion (λ slot. length slot ≡ size) slots
      → AllByRecursion (λ slot. length slot ≡ size) (take k slots)
  take_sized zero slots all = tt
  take_sized (suc k) [] all = tt
  take_sized (suc k) (slot ∷ slots) all = (all.0, take_sized k slots all.1)

  drop_sized : (k : ℕ) (slots : List (List ℕ)) → AllByRecursion (λ slot. length slot ≡ size) slots
      → AllByRecursion (λ slot. length slot ≡ size) (drop k slots)
  drop_sized zero slots all = all
  drop_sized (suc k) [] all = tt
  drop_sized (suc k) (slot ∷ slots) all = drop_sized k slots all.1

-- the slots that stand from an index on, put there again
put_same : (first k : ℕ) (slots : List (List ℕ)) → first + k ≤ length slots → with_slots first (take k (drop first slots)) slots ≡ slots
put_same first k slots fits =
    let part = take k (drop first slots) in
    let part_len : length part ≡ k = length-take k (drop first slots) ∙ omega (arith, length-drop first slots) in
    let behind : drop (first + length part) slots ≡ drop k (drop first slots) =
    ap (λ (n : ℕ). drop (first + n) slots) part_len ∙ sym (drop-drop k first slots) in
    append_assoc (take first slots) part (drop (first + length part) slots)
    ∙ ap (λ (l : List (List ℕ)). take first slots ++ (part ++ l)) behind
    ∙ ap (λ (l : List (List ℕ)). take first slots ++ l) (take-append-drop k (drop first slots))
    ∙ take-append-drop first slots

pub left_alone : (first k : ℕ) (image : ImageState) → IsImage image → first + k ≤ slot_count image.geometry
    → LeavesSlots first k image (faulted image)
left_alone first k image is fits =
    let part = take k (drop first image.slots) in
    let size = slot_bytes image.geometry in
    let room : first + k ≤ length image.slots = omega (arith, is.whole.0) in
    let part_len : length part ≡ k = length-take k (drop first image.slots) ∙ omega (arith, length-drop first image.slots) in (
      part,
      (part_len, take_sized size k (drop first image.slots) (drop_sized size first image.slots is.whole.1)),
      ap (λ (l : List (List ℕ)). record image { slots = l; faults = one_more image.faults }) (sym (put_same first k image.slots room)),
    )

-- a block's slots are among those of all blocks
pub block_fits : (block slots blocks : ℕ) → block < blocks → block * slots + slots ≤ blocks * slots
block_fits block slots blocks below =
    let most : (block + 1) * slots ≤ blocks * slots = mul-le-mul_right slots (omega arith) in
    let sum : (block + 1) * slots ≡ block * slots + 1 * slots = add-mul block 1 slots in
    omega arith
