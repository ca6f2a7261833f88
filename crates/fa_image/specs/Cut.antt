-- Bytes as slots of one size, one behind the other.
use Rattle.std.proofs.Common.{◌≡◌, ℕ, zero, suc, ◌+◌, ◌*◌, List, [], ◌∷◌, length, take, drop, refl, ap, ◌∙◌, arith}
use Rattle.std.proofs.Common.{length-take, length-drop}
use Rattle.std.specs.List.{AllByRecursion}
use Rattle.fa_image.specs.Image.{AreSlots}

-- the first so many slots
unfoldable pub cut : ℕ → ℕ → List ℕ → List (List ℕ)
cut zero size bytes = []
cut (suc count) size bytes = take size bytes ∷ cut count size (drop size bytes)

pub length-cut : (count size : ℕ) (bytes : List ℕ) → length (cut count size bytes) ≡ count
unfolding cut
length-cut zero size bytes = refl
length-cut (suc count) size bytes = ap suc (length-cut count size (drop size bytes))

all_of_one_size : (count size : ℕ) (bytes : List ℕ) → length bytes ≡ count * size
    → AllByRecursion (λ slot. length slot ≡ size) (cut count size bytes)
unfolding cut
all_of_one_size zero size bytes is = tt
all_of_one_size (suc count) size bytes is =
    let whole : length bytes ≡ count * size + size = grind arith in
    (length-take size bytes ∙ omega arith, all_of_one_size count size (drop size bytes) (length-drop size bytes ∙ omega arith))

-- enough bytes give slots
pub AreSlots-cut : (count size : ℕ) (bytes : List ℕ) → length bytes ≡ count * size → AreSlots count size (cut count size bytes)
AreSlots-cut count size bytes is = (length-cut count size bytes, all_of_one_size count size bytes is)
