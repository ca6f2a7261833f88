-- How the words of blocks are loaded into wide lanes, one vector after the other.
use Rattle.std.proofs.Common.{◌≡◌, ℕ, ◌+◌, ◌*◌, ◌<◌, List, [], length, take, drop, slice_index, slice_index_or, slice_set, arith, ap, inl, inr, subst, sym, ◌∙◌}
use Rattle.std.proofs.lemmas.Bool.{cases_lt}
use Rattle.std.proofs.lemmas.List.{get_or-set_same, get_or-set_other, get_or_default, length-set, length-map}
use Rattle.sha2.specs.Sha256.{word_at}
use Rattle.fa_lanes.specs.Wide.{AreTwice, HasLow, HasWideBlock, IsTwice, low, wide_lane}
use Rattle.fa_lanes.proofs.Loading.{word_of_block}
use Rattle.fa_lanes.proofs.WideLanes.{wide_lane_set}

-- the first words are in their places: those of lane l are at l
pub record WideLoaded (w : List (List ℕ)) (count : ℕ) (at : ℕ → ℕ → ℕ) : Type 0 where
  pub size : length w ≡ 16
  pub each : (l : ℕ) → l < 4 → (k : ℕ) → k < count → slice_index (wide_lane w l) k ≡ at l k
  pub twice : (k : ℕ) → k < count → IsTwice (slice_index_or w k [])

pub wide_loaded_none : (w : List (List ℕ)) (at : ℕ → ℕ → ℕ) → length w ≡ 16 → WideLoaded w 0 at
wide_loaded_none w at size = record { size = size; each = λ l lt k none. absurd (omega arith); twice = λ k none. absurd (omega arith) }

-- one word more in each lane
pub wide_loaded_next : (w : List (List ℕ)) (count : ℕ) (at : ℕ → ℕ → ℕ) (word : List ℕ) → count < 16 → WideLoaded w count at
    → HasLow word (λ l. at l count) → IsTwice word → WideLoaded (slice_set w count word) (count + 1) at
wide_loaded_next w count at word fits before has twice = record {
  size = length-set w count word ∙ before.size;
  each = λ l lt k below.
      let wide : length (wide_lane w l) ≡ 16 = length-map w _ ∙ before.size in
      let moved = ap (λ (x : List ℕ). slice_index x k) (wide_lane_set w count l word) in
      elim (cases_lt k count) [
        | inl lower ↦ moved ∙ get_or-set_other (wide_lane w l) count k (low word l) 0 (omega arith) ∙ before.each l lt k lower
        | inr high ↦
            let e : count ≡ k = omega arith in
            moved ∙ ap (λ (i : ℕ). slice_index (slice_set (wide_lane w l) count (low word l)) i) (sym e)
            ∙ get_or-set_same (wide_lane w l) count (low word l) 0 (omega arith) ∙ has.each l lt ∙ ap (at l) e
      ];
  twice = λ k below.
      elim (cases_lt k count) [
        | inl lower ↦ subst IsTwice (sym (get_or-set_other w count k word [] (omega arith))) (before.twice k lower)
        | inr high ↦
            let e : count ≡ k = omega arith in
            subst (λ (i : ℕ). IsTwice (slice_index_or (slice_set w count word) i [])) e
            (subst IsTwice (sym (get_or-set_same w count word [] (omega (arith, before.size, fits)))) twice)
      ];
}

-- all sixteen words are the block's
pub wide_loaded_block : (w : List (List ℕ)) (count at : ℕ) (m : ℕ → List ℕ) → count ≡ 16 → WideLoaded w count (λ l k. word_at (m l) (at + 4 * k))
    → (l : ℕ) → l < 4 → HasWideBlock w l (take 64 (drop at (m l)))
wide_loaded_block w count at m all loaded l lt = record {
  count = loaded.size;
  each = λ k fits. loaded.each l lt k (omega arith) ∙ sym (word_of_block (m l) at k fits);
}

pub wide_loaded_twice : (w : List (List ℕ)) (count : ℕ) (at : ℕ → ℕ → ℕ) → count ≡ 16 → WideLoaded w count at → AreTwice w
wide_loaded_twice w count at all loaded = λ k d below.
    subst IsTwice (sym (get_or_default w k d [] below)) (loaded.twice k (omega (arith, below, loaded.size, all)))
