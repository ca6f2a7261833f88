-- What stands in lists that were written throughout.
use Rattle.std.proofs.Common.{◌≡◌, ℕ, ◌≤◌, ◌∷◌, ◌++◌, List, ap, drop, get_or, inl, inr, length, refl, replicate, suc, subst, sym, take, zero, ◌∙◌}
use Rattle.std.specs.Prelude.{map}
use Rattle.std.proofs.lemmas.Bool.{cases_lt}
use Rattle.std.proofs.lemmas.List.{get_or-replicate, get_or_past, length-replicate}
use Rattle.std.proofs.Math.Seq.{take-append_seam}

-- what was written to a part of a list that is as long as the list
pub whole_part : {X : Type 0} (n : ℕ) (new old : List X) → length new ≡ n → take n (new ++ drop (length new) old) ≡ new
whole_part n new old long = ap (λ k. take k (new ++ drop (length new) old)) (sym long) ∙ take-append_seam new (drop (length new) old)

-- each element of a list of one element, and what stands behind it
pub repeated : {X : Type 0} (n i : ℕ) (x : X) → get_or (replicate n x) i x ≡ x
repeated n i x =
    elim (cases_lt i n) [
      | inl within ↦ get_or-replicate n i x x within
      | inr past ↦ get_or_past (replicate n x) i x (subst (λ k. k ≤ i) (sym (length-replicate n x)) past)
    ]

-- one part of each element of a list of one element
pub map-replicate : {X Y : Type 0} (f : X → Y) (n : ℕ) (x : X) → map f (replicate n x) ≡ replicate n (f x)
map-replicate f zero x = refl
map-replicate f (suc n) x = ap (λ l. f x ∷ l) (map-replicate f n x)
