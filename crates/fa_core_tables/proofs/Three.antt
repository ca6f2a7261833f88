-- Three things, and a change of each.
use Rattle.std.proofs.Common.{List, arith, get_or, length, map, take, ℕ, ◌∷◌, ◌≡◌, []}
use Rattle.std.proofs.lemmas.List.{take-map}

-- each of three, and all of them
pub three_of : {X : Type 0} (f : X → X) (xs : List X) (d : X) (n : ℕ) → length xs ≡ 3
    → take n (f (get_or xs 0 d) ∷ f (get_or xs 1 d) ∷ f (get_or xs 2 d) ∷ []) ≡ map f (take n xs)
three_of f [] d n is = absurd (omega (arith, is))
three_of f (x ∷ []) d n is = absurd (omega (arith, is))
three_of f (x ∷ y ∷ []) d n is = absurd (omega (arith, is))
three_of f (x ∷ y ∷ z ∷ []) d n is = take-map f n (x ∷ y ∷ z ∷ [])
three_of f (x ∷ y ∷ z ∷ w ∷ ws) d n is = absurd (omega (arith, is))
