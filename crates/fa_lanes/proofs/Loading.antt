-- How the words of blocks are loaded, one vector after the other.
use Rattle.std.proofs.Common.{◌≡◌, ℕ, zero, suc, ◌+◌, ◌*◌, ◌<◌, List, length, take, drop, slice_index, slice_set, arith, ap, refl, inl, inr, sym, ◌∙◌}
use Rattle.std.proofs.lemmas.Bool.{cases_lt}
use Rattle.std.proofs.lemmas.List.{get_or-set_same, get_or-set_other, length-set, length-map}
use Rattle.std.proofs.lemmas.Simd.{get_or-chunk}
use Rattle.sha2.specs.Sha256.{word_at}
use Rattle.fa_lanes.specs.Lanes.{HasBlock, HasLanes, lane}
use Rattle.fa_lanes.proofs.InLanes.{lane_set}

-- what holds of each of the eight lanes
pub each_lane : (P : ℕ → Type 0) → P 0 → P 1 → P 2 → P 3 → P 4 → P 5 → P 6 → P 7 → (l : ℕ) → l < 8 → P l
each_lane P a b c d e f g h zero lt = a
each_lane P a b c d e f g h (suc zero) lt = b
each_lane P a b c d e f g h (suc (suc zero)) lt = c
each_lane P a b c d e f g h (suc (suc (suc zero))) lt = d
each_lane P a b c d e f g h (suc (suc (suc (suc zero)))) lt = e
each_lane P a b c d e f g h (suc (suc (suc (suc (suc zero))))) lt = f
each_lane P a b c d e f g h (suc (suc (suc (suc (suc (suc zero)))))) lt = g
each_lane P a b c d e f g h (suc (suc (suc (suc (suc (suc (suc zero))))))) lt = h
each_lane P a b c d e f g h (suc (suc (suc (suc (suc (suc (suc (suc n)))))))) lt = absurd (omega arith)

-- the first words are in their places: those of lane l are at l
pub record Loaded (w : List (List ℕ)) (count : ℕ) (at : ℕ → ℕ → ℕ) : Type 0 where
  pub size : length w ≡ 16
  pub each : (l : ℕ) → l < 8 → (k : ℕ) → k < count → slice_index (lane w l) k ≡ at l k

pub loaded_none : (w : List (List ℕ)) (at : ℕ → ℕ → ℕ) → length w ≡ 16 → Loaded w 0 at
loaded_none w at size = record { size = size; each = λ l lt k none. absurd (omega arith) }

-- one word more in each lane
pub loaded_next : (w : List (List ℕ)) (count : ℕ) (at : ℕ → ℕ → ℕ) (word : List ℕ) → count < 16 → Loaded w count at
    → HasLanes word (λ l. at l count) → Loaded (slice_set w count word) (count + 1) at
loaded_next w count at word fits before has = record {
  size = length-set w count word ∙ before.size;
  each = λ l lt k below.
      let wide : length (lane w l) ≡ 16 = length-map w _ ∙ before.size in
      let moved = ap (λ (x : List ℕ). slice_index x k) (lane_set w count l word) in
      elim (cases_lt k count) [
        | inl low ↦ moved ∙ get_or-set_other (lane w l) count k (slice_index word l) 0 (omega arith) ∙ before.each l lt k low
        | inr high ↦
            let e : count ≡ k = omega arith in
            moved ∙ ap (λ (i : ℕ). slice_index (slice_set (lane w l) count (slice_index word l)) i) (sym e)
            ∙ get_or-set_same (lane w l) count (slice_index word l) 0 (omega arith) ∙ has.each l lt ∙ ap (at l) e
      ];
}

-- a word of a block is one of the message
pub word_of_block : (m : List ℕ) (at k : ℕ) → k < 16 → word_at (take 64 (drop at m)) (4 * k) ≡ word_at m (at + 4 * k)
word_of_block m at k fits =
    let b = take 64 (drop at m) in
    let e0 : slice_index b (4 * k) ≡ slice_index m (at + 4 * k) = get_or-chunk at 64 m (4 * k) 0 (omega arith) in
    let e1 : slice_index b (4 * k + 1) ≡ slice_index m (at + 4 * k + 1) = get_or-chunk at 64 m (4 * k + 1) 0 (omega arith) ∙ ap (slice_index m) (omega arith) in
    let e2 : slice_index b (4 * k + 2) ≡ slice_index m (at + 4 * k + 2) = get_or-chunk at 64 m (4 * k + 2) 0 (omega arith) ∙ ap (slice_index m) (omega arith) in
    let e3 : slice_index b (4 * k + 3) ≡ slice_index m (at + 4 * k + 3) = get_or-chunk at 64 m (4 * k + 3) 0 (omega arith) ∙ ap (slice_index m) (omega arith) in
    rw (e0, e1, e2, e3) refl

-- all sixteen words are the block's
pub loaded_block : (w : List (List ℕ)) (count at : ℕ) (m : ℕ → List ℕ) → count ≡ 16 → Loaded w count (λ l k. word_at (m l) (at + 4 * k))
    → (l : ℕ) → l < 8 → HasBlock w l (take 64 (drop at (m l)))
loaded_block w count at m all loaded l lt = record {
  count = loaded.size;
  each = λ k fits. loaded.each l lt k (omega arith) ∙ sym (word_of_block (m l) at k fits);
}
