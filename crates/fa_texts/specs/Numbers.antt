-- The numbers that the words of a line write.
use Rattle.std.specs.Prelude.{ℕ, ◌≤◌, List, [], ◌∷◌, All}
use Rattle.std.specs.Fmt.{decimal}
use Rattle.std.specs.List.Sorted.{IsStrictlyIncreasing}

-- three numbers, each within its bound
abbrev pub AreWithin : ℕ × ℕ × ℕ → ℕ × ℕ × ℕ → Type 0
AreWithin max n = (n.0 ≤ max.0) × (n.1 ≤ max.1) × (n.2 ≤ max.2)

-- the words that write three numbers
abbrev pub three_words : ℕ × ℕ × ℕ → List (List ℕ)
three_words n = decimal n.0 ∷ decimal n.1 ∷ decimal n.2 ∷ []

-- rising numbers, none above a bound
pub record IsRisingUpTo (max : ℕ) (ns : List ℕ) : Type 0 where
  pub within : All (λ n. n ≤ max) ns
  pub rising : IsStrictlyIncreasing ns
