-- Words for what stands in a list.
use Rattle.std.specs.Prelude.{◌≡◌, ℕ, ◌+◌, Bool, ◌⊎◌, List, [], ◌∷◌, if◌then◌else◌}

-- x stands in the list
abbrev pub Among : {X : Type 0} → X → List X → Type 0
Among x [] = ⊥
Among x (y ∷ ys) = (y ≡ x) ⊎ Among x ys

-- how many elements pass
abbrev pub tally : {X : Type 0} → (X → Bool) → List X → ℕ
tally passes [] = 0
tally passes (x ∷ xs) = (if passes x then 1 else 0) + tally passes xs
