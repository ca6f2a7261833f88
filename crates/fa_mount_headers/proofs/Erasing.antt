-- Slots that are erased block by block.
use Rattle.std.proofs.Common.{◌≡◌, ℕ, ◌+◌, ◌*◌, List, ◌++◌, length, take, drop, replicate, ap, sym, ◌∙◌, arith, append-nil}
use Rattle.std.proofs.lemmas.List.{take_at, drop_all, drop-drop, drop_at, length-replicate, replicate-append-replicate}
use Rattle.fa_image.specs.Image.{ImageState, Erasing, accepted, erased_slot, slot_bytes, slot_count}
use Rattle.fa_mount_headers.specs.Formatted.{all_erased}

-- the image with its first so many slots erased
abbrev pub erased_to : ℕ → ImageState → ImageState
erased_to n image = record image { slots = replicate n (erased_slot (slot_bytes image.geometry)) ++ drop n image.slots }

-- slots behind the first n of them
behind : {A : Type 0} (n m : ℕ) (e : A) (xs : List A) → drop (n + m) (replicate n e ++ drop n xs) ≡ drop (n + m) xs
behind n m e xs =
    sym (drop-drop m n (replicate n e ++ drop n xs))
    ∙ ap (λ l. drop m l) (drop_at (replicate n e) (drop n xs) n (length-replicate n e))
    ∙ drop-drop m n xs

more_slots : {A : Type 0} (n m : ℕ) (e : A) (xs : List A)
    → take n (replicate n e ++ drop n xs) ++ replicate m e ++ drop (n + length (replicate m e)) (replicate n e ++ drop n xs)
    ≡ replicate (n + m) e ++ drop (n + m) xs
more_slots n m e xs =
    ap (λ l. l ++ replicate m e ++ drop (n + length (replicate m e)) (replicate n e ++ drop n xs)) (take_at (replicate n e) (drop n xs) n (length-replicate n e))
    ∙ ap (λ l. l ++ drop (n + length (replicate m e)) (replicate n e ++ drop n xs)) (replicate-append-replicate n m e)
    ∙ ap (λ k. replicate (n + m) e ++ drop (n + k) (replicate n e ++ drop n xs)) (length-replicate m e)
    ∙ ap (λ l. replicate (n + m) e ++ l) (behind n m e xs)

-- one block more
pub erased_more : (block : ℕ) (image : ImageState)
    → accepted (Erasing block) (erased_to (block * image.geometry.slots) image) ≡ erased_to ((block + 1) * image.geometry.slots) image
erased_more block image =
    let s = image.geometry.slots in
    let n = block * s in
    let e = erased_slot (slot_bytes image.geometry) in
    let sum : n + s ≡ (block + 1) * s = grind arith in
    ap (λ (l : List (List ℕ)). record image { slots = l }) (more_slots n s e image.slots)
    ∙ ap (λ (k : ℕ). erased_to k image) sum

-- all blocks
pub erased_all : (image : ImageState) → length image.slots ≡ slot_count image.geometry
    → erased_to (image.geometry.blocks * image.geometry.slots) image ≡ all_erased image
erased_all image whole =
    let n = slot_count image.geometry in
    let e = erased_slot (slot_bytes image.geometry) in
    ap (λ (l : List (List ℕ)). record image { slots = replicate n e ++ l }) (drop_all n image.slots (omega (arith, whole)))
    ∙ ap (λ (l : List (List ℕ)). record image { slots = l }) (append-nil (replicate n e))
