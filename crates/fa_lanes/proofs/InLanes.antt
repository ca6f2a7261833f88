-- What an operation on vectors does to the numbers of one lane.
use Rattle.std.proofs.Common.{◌≡◌, ℕ, ◌<◌, List, [], length, replicate, slice_index, slice_index_or, slice_set, arith, ap, refl, sym, ◌∙◌}
use Rattle.std.proofs.lemmas.List.{map-set}
use Rattle.std.proofs.Math.ListN.{get_or-map}
use Rattle.std.proofs.lemmas.Simd.{get_or-zip2, get_or-replicate, length-zip2}
use Rattle.std.proofs.lemmas.List.{ext_get_or, length-map}
use lib.Lanes.{zip2}
use Rattle.fa_lanes.specs.Lanes.{HasLanes, lane}

-- an operation on two vectors is done in each lane
pub in_lanes : (f : ℕ → ℕ → ℕ) (a b : List ℕ) → length a ≡ 8 → length b ≡ 8
    → HasLanes (zip2 f a b) (λ l. f (slice_index a l) (slice_index b l))
in_lanes f a b size_a size_b = record {
  size = length-zip2 f a b (size_a ∙ sym size_b) ∙ size_a;
  each = λ l lt. get_or-zip2 f a b l 0 0 0 (omega arith) (omega arith);
}

-- a number for all lanes is that number in each
pub all_lanes : (n : ℕ) → HasLanes (replicate 8 n) (λ l. n)
all_lanes n = record { size = refl; each = λ l lt. get_or-replicate 8 l n 0 lt }

-- the same by other names
pub lanes_as : (a : List ℕ) (f g : ℕ → ℕ) → HasLanes a f → ((l : ℕ) → l < 8 → f l ≡ g l) → HasLanes a g
lanes_as a f g has same = record { size = has.size; each = λ l lt. has.each l lt ∙ same l lt }

-- with one number for all lanes
pub with_one : (f : ℕ → ℕ → ℕ) (a : List ℕ) (n : ℕ) → length a ≡ 8 → HasLanes (zip2 f a (replicate 8 n)) (λ l. f (slice_index a l) n)
with_one f a n size =
    let both = in_lanes f a (replicate 8 n) size refl in
    record { size = both.size; each = λ l lt. both.each l lt ∙ ap (f (slice_index a l)) ((all_lanes n).each l lt) }

-- two of these put together
pub with_both : (f g h : ℕ → ℕ → ℕ) (a : List ℕ) (m n : ℕ) → length a ≡ 8
    → HasLanes (zip2 h (zip2 f a (replicate 8 m)) (zip2 g a (replicate 8 n))) (λ l. h (f (slice_index a l) m) (g (slice_index a l) n))
with_both f g h a m n size =
    let one = with_one f a m size in
    let other = with_one g a n size in
    let both = in_lanes h (zip2 f a (replicate 8 m)) (zip2 g a (replicate 8 n)) one.size other.size in
    record { size = both.size; each = λ l lt. both.each l lt ∙ ap (λ x. h x (slice_index (zip2 g a (replicate 8 n)) l)) (one.each l lt) ∙ ap (h (f (slice_index a l) m)) (other.each l lt) }

-- one lane of the vector at a place is that lane's number there
pub lane_at : (vectors : List (List ℕ)) (i l : ℕ) → slice_index (lane vectors l) i ≡ slice_index (slice_index_or vectors i []) l
lane_at vectors i l = get_or-map (λ vector. slice_index vector l) vectors i []

-- one lane, where a vector is put at a place
pub lane_set : (vectors : List (List ℕ)) (i l : ℕ) (vector : List ℕ)
    → lane (slice_set vectors i vector) l ≡ slice_set (lane vectors l) i (slice_index vector l)
lane_set vectors i l vector = map-set (λ v. slice_index v l) vectors i vector

-- eight numbers are one lane of eight vectors, where each is that lane's number of its vector
pub lane_from_each : (vectors : List (List ℕ)) (l : ℕ) (words : List ℕ) → length vectors ≡ 8 → length words ≡ 8
    → ((i : ℕ) → i < 8 → slice_index words i ≡ slice_index (slice_index_or vectors i []) l) → words ≡ lane vectors l
lane_from_each vectors l words size size_words same =
    ext_get_or 0 words (lane vectors l) (size_words ∙ sym (length-map vectors _ ∙ size)) (λ i lt. same i (omega arith) ∙ sym (lane_at vectors i l))
