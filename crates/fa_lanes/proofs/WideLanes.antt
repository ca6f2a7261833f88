-- What an operation on wide lanes does to the words in their low halves.
use Rattle.std.proofs.Common.{◌≡◌, ℕ, zero, suc, ◌+◌, ◌-◌, ◌*◌, ◌/◌, ◌%◌, ◌^◌, ◌<◌, ◌≤◌, List, [], ◌∷◌, length, replicate, slice_index, slice_index_or, slice_set, bit_and, bit_or, arith, ap, sym, ◌∙◌, mod-lt, pow_pos, pow-add, shr-shr}
use Rattle.std.specs.Int.{w32, rotate_right}
use Rattle.std.proofs.lemmas.List.{ext_get_or, length-map, map-set}
use Rattle.std.proofs.lemmas.List.Elements.{All-from_recursion}
use Rattle.std.proofs.lemmas.Nat.{and_mask, mod-pow-add, mod_low, or_comm, or_shifted, shr_below, shr_high, shr_le, shr_split}
use Rattle.std.proofs.Math.ListN.{get_or-map}
use Rattle.std.proofs.lemmas.Simd.{get_or-zip2, get_or-replicate, length-zip2}
use lib.Arith.{digits_lt}
use lib.Lanes.{zip2}
use Rattle.fa_lanes.specs.Wide.{AreTwice, HasLow, IsTwice, low, wide_lane}

-- an operation on two vectors is done in each lane, and in the low halves as on words
pub in_low : (f g : ℕ → ℕ → ℕ) (a b : List ℕ) → length a ≡ 4 → length b ≡ 4 → ((x y : ℕ) → f x y % 2 ^ 32 ≡ g (x % 2 ^ 32) (y % 2 ^ 32))
    → HasLow (zip2 f a b) (λ l. g (low a l) (low b l))
in_low f g a b size_a size_b same = record {
  size = length-zip2 f a b (size_a ∙ sym size_b) ∙ size_a;
  each = λ l lt. ap (λ (n : ℕ). n % 2 ^ 32) (get_or-zip2 f a b l 0 0 0 (omega arith) (omega arith)) ∙ same (slice_index a l) (slice_index b l);
}

-- with one number for all lanes
with_one_at : (f : ℕ → ℕ → ℕ) (a : List ℕ) (n l : ℕ) → length a ≡ 4 → l < 4 → slice_index (zip2 f a (replicate 4 n)) l ≡ f (slice_index a l) n
with_one_at f a n l size lt =
    get_or-zip2 f a (replicate 4 n) l 0 0 0 (omega (arith, size, lt)) lt ∙ ap (f (slice_index a l)) (get_or-replicate 4 l n 0 lt)

length-with_one : (f : ℕ → ℕ → ℕ) (a : List ℕ) (n : ℕ) → length a ≡ 4 → length (zip2 f a (replicate 4 n)) ≡ 4
length-with_one f a n size = length-zip2 f a (replicate 4 n) size ∙ size

-- two of these put together
both_at : (f g h : ℕ → ℕ → ℕ) (a : List ℕ) (m n l : ℕ) → length a ≡ 4 → l < 4
    → slice_index (zip2 h (zip2 f a (replicate 4 m)) (zip2 g a (replicate 4 n))) l ≡ h (f (slice_index a l) m) (g (slice_index a l) n)
both_at f g h a m n l size lt =
    get_or-zip2 h (zip2 f a (replicate 4 m)) (zip2 g a (replicate 4 n)) l 0 0 0
    (omega (arith, length-with_one f a m size, lt)) (omega (arith, length-with_one g a n size, lt))
    ∙ ap (λ x. h x (slice_index (zip2 g a (replicate 4 n)) l)) (with_one_at f a m l size lt) ∙ ap (h (f (slice_index a l) m)) (with_one_at g a n l size lt)

-- the low half of a number in both halves
doubled : (x : ℕ) → bit_or (x * 2 ^ 32 % 2 ^ 64) (bit_and x (2 ^ 32 - 1)) ≡ x % 2 ^ 32 * 2 ^ 32 + x % 2 ^ 32
doubled x =
    let high : x * 2 ^ 32 % 2 ^ 64 ≡ x % 2 ^ 32 * 2 ^ 32 = omega arith in
    rw (high, and_mask x 32) (or_shifted (x % 2 ^ 32) 32 (x % 2 ^ 32) (mod-lt x (pow_pos 32)))

module _ (f g h : ℕ → ℕ → ℕ) (a : List ℕ) (m n : ℕ) (size : length a ≡ 4) (same : (x : ℕ) → h (f x m) (g x n) ≡ bit_or (x * 2 ^ 32 % 2 ^ 64) (bit_and x (2 ^ 32 - 1))) where
  abbrev in_both : List ℕ
  in_both = zip2 h (zip2 f a (replicate 4 m)) (zip2 g a (replicate 4 n))

  size_both : length in_both ≡ 4
  size_both = length-zip2 h (zip2 f a (replicate 4 m)) (zip2 g a (replicate 4 n)) (length-with_one f a m size ∙ sym (length-with_one g a n size)) ∙ length-with_one f a m size

  value_of_both : (l : ℕ) → l < 4 → slice_index in_both l ≡ low a l * 2 ^ 32 + low a l
  value_of_both l lt = both_at f g h a m n l size lt ∙ same (slice_index a l) ∙ doubled (slice_index a l)

  low_of_both : (l : ℕ) → l < 4 → low in_both l ≡ low a l
  low_of_both l lt = let is = value_of_both l lt in omega (arith, is)

  pub double_low : HasLow (zip2 h (zip2 f a (replicate 4 m)) (zip2 g a (replicate 4 n))) (low a)
  double_low = record { size = size_both; each = low_of_both }

  pub double_twice : IsTwice (zip2 h (zip2 f a (replicate 4 m)) (zip2 g a (replicate 4 n)))
  double_twice = record {
    size = size_both;
    each = λ l lt. let is = value_of_both l lt in let half = low_of_both l lt in omega (arith, is, half);
  }

-- a number with itself above it, shifted to the right, is the rotated number in its low half
rotated_half : (j k q : ℕ) → q < 2 ^ (j + k) → (q * 2 ^ (j + k) + q) / 2 ^ k % 2 ^ (j + k) ≡ q % 2 ^ k * 2 ^ j + q / 2 ^ k
rotated_half j k q fits =
    let r : ℕ = q % 2 ^ k in
    let h : ℕ = q / 2 ^ k in
    let low_fits : r < 2 ^ k = mod-lt q (pow_pos k) in
    let high_fits : h < 2 ^ j = shr_below q j k fits in
    let split : h * 2 ^ k + r ≡ q = shr_split q k in
    let product : 2 ^ (j + k) ≡ 2 ^ j * 2 ^ k = pow-add 2 j k in
    let inner : q * 2 ^ (j + k) + q ≡ (q * 2 ^ j + h) * 2 ^ k + r = omega (arith, ap (λ x. q * x) product, split) in
    let outer : q * 2 ^ j + h ≡ h * 2 ^ (j + k) + (r * 2 ^ j + h) = omega (arith, ap (λ x. x * 2 ^ j) split, ap (λ x. h * x) product) in
    let below : r * 2 ^ j + h < 2 ^ k * 2 ^ j = digits_lt low_fits high_fits in
    let within : r * 2 ^ j + h < 2 ^ (j + k) = omega (arith, below, product) in
    rw (inner, shr_high (q * 2 ^ j + h) k r low_fits, outer) (mod_low h (j + k) (r * 2 ^ j + h) within)

rotated_word : (q by : ℕ) → q < 2 ^ 32 → 0 < by → by < 32 → (q * 2 ^ 32 + q) / 2 ^ by % 2 ^ 32 ≡ rotate_right w32 q by
rotated_word q by fits some few =
    let j : ℕ = 32 - by in
    let whole : j + by ≡ 32 = omega arith in
    let turned : by + j ≡ 32 = omega arith in
    let right : by % 32 ≡ by = omega arith in
    let left : (32 - by) % 32 ≡ j = omega arith in
    let clear : q * 2 ^ j % 2 ^ j ≡ 0 = ap (λ (x : ℕ). x % 2 ^ j) (omega arith) ∙ mod_low q j 0 (pow_pos j) in
    let back : q * 2 ^ j / 2 ^ j ≡ q = ap (λ (x : ℕ). x / 2 ^ j) (omega arith) ∙ shr_high q j 0 (pow_pos j) in
    let high : q * 2 ^ j % 2 ^ 32 ≡ q % 2 ^ by * 2 ^ j =
    ap (λ (n : ℕ). q * 2 ^ j % 2 ^ n) (sym turned) ∙ mod-pow-add (q * 2 ^ j) by j ∙ rw (back, clear) (omega arith) in
    let top : q / 2 ^ by < 2 ^ j = shr_below q j by (rw whole fits) in
    ap (λ (n : ℕ). (q * 2 ^ n + q) / 2 ^ by % 2 ^ n) (sym whole) ∙ rotated_half j by q (rw whole fits)
    ∙ sym (rw (right, left, high) (or_comm (q / 2 ^ by) (q % 2 ^ by * 2 ^ j) ∙ or_shifted (q % 2 ^ by) j (q / 2 ^ by) top))

shifted_word : (q by : ℕ) → q < 2 ^ 32 → (q * 2 ^ 32 + q) / 2 ^ (32 + by) % 2 ^ 32 ≡ q / 2 ^ by
shifted_word q by fits =
    let less : q / 2 ^ by ≤ q = shr_le q by in
    let half : (q * 2 ^ 32 + q) / 2 ^ 32 ≡ q = shr_high q 32 q fits in
    ap (λ (n : ℕ). n % 2 ^ 32) (sym (shr-shr (q * 2 ^ 32 + q) 32 by) ∙ ap (λ (n : ℕ). n / 2 ^ by) half) ∙ omega (arith, less, fits)

-- what a shift leaves of words that are there twice
module _ (f : ℕ → ℕ → ℕ) (a : List ℕ) (n : ℕ) (twice : IsTwice a) (g : ℕ → ℕ)
    (same : (q : ℕ) → q < 2 ^ 32 → f (q * 2 ^ 32 + q) n % 2 ^ 32 ≡ g q) where
  of_twice : HasLow (zip2 f a (replicate 4 n)) (λ l. g (low a l))
  of_twice = record {
    size = length-with_one f a n twice.size;
    each = λ l lt.
        ap (λ (x : ℕ). x % 2 ^ 32) (with_one_at f a n l twice.size lt ∙ ap (λ (x : ℕ). f x n) (twice.each l lt))
        ∙ same (low a l) (mod-lt (slice_index a l) (pow_pos 32));
  }

pub rotated_twice : (a : List ℕ) (by : ℕ) → IsTwice a → 0 < by → by < 32 → HasLow (zip2 (λ x k. x / 2 ^ k) a (replicate 4 by)) (λ l. rotate_right w32 (low a l) by)
rotated_twice a by twice some few = of_twice (λ x k. x / 2 ^ k) a by twice (λ q. rotate_right w32 q by) (λ q fits. rotated_word q by fits some few)

pub shifted_twice : (a : List ℕ) (by : ℕ) → IsTwice a → HasLow (zip2 (λ x k. x / 2 ^ k) a (replicate 4 (32 + by))) (λ l. low a l / 2 ^ by)
shifted_twice a by twice = of_twice (λ x k. x / 2 ^ k) a (32 + by) twice (λ q. q / 2 ^ by) (λ q fits. shifted_word q by fits)

-- one lane of the vector at a place
pub wide_lane_at : (vectors : List (List ℕ)) (i l : ℕ) → slice_index (wide_lane vectors l) i ≡ low (slice_index_or vectors i []) l
wide_lane_at vectors i l = get_or-map (λ vector. low vector l) vectors i []

-- one lane, where a vector is put at a place
pub wide_lane_set : (vectors : List (List ℕ)) (i l : ℕ) (vector : List ℕ)
    → wide_lane (slice_set vectors i vector) l ≡ slice_set (wide_lane vectors l) i (low vector l)
wide_lane_set vectors i l vector = map-set (λ v. low v l) vectors i vector

-- eight numbers are one lane of eight vectors, where each is that lane's word of its vector
pub wide_lane_from_each : (vectors : List (List ℕ)) (l : ℕ) (words : List ℕ) → length vectors ≡ 8 → length words ≡ 8
    → ((i : ℕ) → i < 8 → slice_index words i ≡ low (slice_index_or vectors i []) l) → words ≡ wide_lane vectors l
wide_lane_from_each vectors l words size size_words same =
    ext_get_or 0 words (wide_lane vectors l) (size_words ∙ sym (length-map vectors _ ∙ size)) (λ i lt. same i (omega arith) ∙ sym (wide_lane_at vectors i l))

-- what holds of each of the four lanes
pub each_wide_lane : (P : ℕ → Type 0) → P 0 → P 1 → P 2 → P 3 → (l : ℕ) → l < 4 → P l
each_wide_lane P a b c d zero lt = a
each_wide_lane P a b c d (suc zero) lt = b
each_wide_lane P a b c d (suc (suc zero)) lt = c
each_wide_lane P a b c d (suc (suc (suc zero))) lt = d
each_wide_lane P a b c d (suc (suc (suc (suc n)))) lt = absurd (omega arith)

-- eight vectors that are so
pub eight_twice : (a b c d e f g h : List ℕ) → IsTwice a → IsTwice b → IsTwice c → IsTwice d → IsTwice e → IsTwice f → IsTwice g → IsTwice h
    → AreTwice (a ∷ b ∷ c ∷ d ∷ e ∷ f ∷ g ∷ h ∷ [])
eight_twice a b c d e f g h p q r s t u x y = All-from_recursion IsTwice (a ∷ b ∷ c ∷ d ∷ e ∷ f ∷ g ∷ h ∷ []) (p, (q, (r, (s, (t, (u, (x, (y, tt))))))))

-- a word that is put into each lane
pub splat_low : (n l : ℕ) → n < 2 ^ 32 → l < 4 → low (replicate 4 n) l ≡ n
splat_low n l fits lt = ap (λ (x : ℕ). x % 2 ^ 32) (get_or-replicate 4 l n 0 lt) ∙ omega (arith, fits)
