-- The bytes of a tail with the padding behind it.
use Rattle.std.proofs.Common.{◌≡◌, ℕ, suc, ◌+◌, ◌-◌, ◌*◌, ◌%◌, ◌^◌, ◌<◌, ◌≤◌, List, ◌∷◌, ◌++◌, length, replicate, slice_index, arith, ap, refl, sym, ◌∙◌, append_assoc, length-append}
use Rattle.std.proofs.lemmas.List.{get_or_append_left, get_or-append_right, length-replicate, get_or-replicate}
use Rattle.std.specs.Int.{w64, to_be_bytes}
use Rattle.sha2.specs.Sha256.{padding}

-- the padding in front of the length
abbrev front : ℕ → List ℕ
front n = 0x80 ∷ replicate ((119 - n % 64) % 64) 0

length-front : (n : ℕ) → length (front n) ≡ 1 + (119 - n % 64) % 64
length-front n = omega (arith, length-replicate {A = ℕ} ((119 - n % 64) % 64) 0)

pub byte_of_tail : (tail : List ℕ) (n at : ℕ) → at < length tail → slice_index (tail ++ padding n) at ≡ slice_index tail at
byte_of_tail tail n at lt = get_or_append_left tail (padding n) 0 at lt

pub byte_behind : (tail : List ℕ) (n at : ℕ) → at ≡ length tail → slice_index (tail ++ padding n) at ≡ 0x80
byte_behind tail n at e =
    let none : at - length tail ≡ 0 = omega arith in
    get_or-append_right tail (padding n) (length tail) at 0 refl (omega arith) ∙ ap (slice_index (padding n)) none

pub byte_between : (tail : List ℕ) (n at : ℕ) → length tail < at → at < length tail + 1 + (119 - n % 64) % 64
    → slice_index (tail ++ padding n) at ≡ 0
byte_between tail n at above below =
    let zeros : ℕ = (119 - n % 64) % 64 in
    let j : ℕ = at - length tail - 1 in
    let far : at - length tail ≡ suc j = omega arith in
    let between : List ℕ = replicate zeros 0 in
    let size : length between ≡ zeros = length-replicate {A = ℕ} zeros 0 in
    get_or-append_right tail (padding n) (length tail) at 0 refl (omega arith) ∙ ap (slice_index (padding n)) far
    ∙ get_or_append_left between (to_be_bytes w64 (n * 8 % 2 ^ 64)) 0 j (omega arith) ∙ get_or-replicate zeros j 0 0 (omega arith)

pub byte_of_length : (tail : List ℕ) (n at end : ℕ) → end ≡ length tail + 1 + (119 - n % 64) % 64 → end ≤ at
    → slice_index (tail ++ padding n) at ≡ slice_index (to_be_bytes w64 (n * 8 % 2 ^ 64)) (at - end)
byte_of_length tail n at end e above =
    let bits = to_be_bytes w64 (n * 8 % 2 ^ 64) in
    let size : length (tail ++ front n) ≡ end = omega (arith, length-append tail (front n), length-front n) in
    ap (λ (l : List ℕ). slice_index l at) (sym (append_assoc tail (front n) bits))
    ∙ get_or-append_right (tail ++ front n) bits end at 0 size above

pub length_padded : (tail : List ℕ) (n end : ℕ) → end ≡ length tail + 1 + (119 - n % 64) % 64 → length (tail ++ padding n) ≡ end + 8
length_padded tail n end e =
    let bits = to_be_bytes w64 (n * 8 % 2 ^ 64) in
    omega (arith, length-append tail (padding n), length-append (front n) bits, length-front n)
