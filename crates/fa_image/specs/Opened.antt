-- A file that has the header and the slots of an image opens as that image.
use Rattle.std.proofs.Common.{◌≡◌, ℕ, zero, suc, ◌+◌, ◌-◌, ◌*◌, List, [], ◌∷◌, ◌++◌, length, take, drop, replicate, refl, ap, ◌∙◌, arith}
use Rattle.std.proofs.Common.{append_assoc, length-append}
use Rattle.std.proofs.lemmas.List.{take_at, drop_at}
use Rattle.std.specs.List.{AllByRecursion, concat}
use Rattle.fa_types.specs.Store.{bytes_at}
use Rattle.fa_image.specs.Cut.{cut}
use Rattle.fa_image.specs.File.{opened, file_of, file_bytes}
use Rattle.fa_image.specs.Image.{ImageState, IsImage, slot_bytes, slot_count}

-- slots of one size, joined and cut again
cut-concat : (count size : ℕ) (slots : List (List ℕ)) → length slots ≡ count → AllByRecursion (λ slot. length slot ≡ size) slots
    → cut count size (concat slots) ≡ slots
unfolding cut
cut-concat zero size [] is all = refl
cut-concat (suc count) size [] is all = absurd (omega (arith, is))
cut-concat zero size (slot ∷ slots) is all = absurd (omega (arith, is))
cut-concat (suc count) size (slot ∷ slots) is all =
    ap (λ (l : List ℕ). l ∷ cut count size (drop size (slot ++ concat slots))) (take_at slot (concat slots) size all.0)
    ∙ ap (λ (l : List ℕ). slot ∷ cut count size l) (drop_at slot (concat slots) size all.0)
    ∙ ap (λ (l : List (List ℕ)). slot ∷ l) (cut-concat count size slots (omega (arith, is)) all.1)

length-concat : (count size : ℕ) (slots : List (List ℕ)) → length slots ≡ count → AllByRecursion (λ slot. length slot ≡ size) slots
    → length (concat slots) ≡ count * size
length-concat zero size [] is all = grind arith
length-concat (suc count) size [] is all = absurd (omega (arith, is))
length-concat zero size (slot ∷ slots) is all = absurd (omega (arith, is))
length-concat (suc count) size (slot ∷ slots) is all =
    let rest = length-concat count size slots (omega (arith, is)) all.1 in
    let one : length slot ≡ size = all.0 in
    let sum : suc count * size ≡ size + count * size = grind arith in
    length-append slot (concat slots) ∙ omega (arith, rest, one, sum)

-- the bytes between others
between : (start n : ℕ) (front middle back : List ℕ) → length front ≡ start → length middle ≡ n
    → bytes_at start n (front ++ (middle ++ back)) ≡ middle
between start n front middle back front_is middle_is =
    ap (λ (l : List ℕ). take n l) (drop_at front (middle ++ back) start front_is) ∙ take_at middle back n middle_is

pub reopened : (image : ImageState) (rest behind : List ℕ) (lefts : List (List ℕ)) → IsImage image → length rest ≡ 3984
    → opened image.geometry (record { bytes = file_of image rest behind; lefts = lefts }) ≡ record image { syncs = 0; faults = 0 }
reopened image rest behind lefts is rest_is =
    let g = image.geometry in
    let count = slot_count g in
    let size = slot_bytes g in
    let n = count * size in
    let slots = concat image.slots in
    let zeros : List ℕ = replicate (file_bytes g - length (file_of image rest behind)) 0 in
    let all : List ℕ = file_of image rest behind ++ zeros in
    let front : List ℕ = image.header ++ rest in
    let front_is : length front ≡ 4096 = length-append image.header rest ∙ omega (arith, is.headed, rest_is) in
    let slots_is : length slots ≡ n = length-concat count size image.slots is.whole.0 is.whole.1 in
    let as_parts : all ≡ front ++ (slots ++ (behind ++ zeros)) =
    append_assoc (front ++ slots) behind zeros ∙ append_assoc front slots (behind ++ zeros) in
    let as_header : all ≡ image.header ++ (rest ++ (slots ++ (behind ++ zeros))) =
    as_parts ∙ append_assoc image.header rest (slots ++ (behind ++ zeros)) in
    let of : List (List ℕ) → List ℕ → ImageState =
    λ found header. record { geometry = g; slots = found; header = header; syncs = 0; faults = 0 } in
    let found : cut count size (bytes_at 4096 n all) ≡ image.slots =
    ap (λ (l : List ℕ). cut count size (bytes_at 4096 n l)) as_parts
    ∙ ap (λ (l : List ℕ). cut count size l) (between 4096 n front slots (behind ++ zeros) front_is slots_is)
    ∙ cut-concat count size image.slots is.whole.0 is.whole.1 in
    let header : take 112 all ≡ image.header =
    ap (λ (l : List ℕ). take 112 l) as_header ∙ take_at image.header (rest ++ (slots ++ (behind ++ zeros))) 112 is.headed in
    ap (λ (l : List (List ℕ)). of l (take 112 all)) found ∙ ap (of image.slots) header
