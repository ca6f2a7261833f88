-- What printing a text comes to.
use Rattle.std.specs.Prelude.{◌≡◌, ◌⊎◌, ℕ, List, [], ◌∷◌, ◌++◌, codes, Option}
use Rattle.std.specs.Io.KnownBytes.{Appends}
use Rattle.fa_io.specs.Streams.{IsCut}

-- What printing a text comes to: it is printed, and the run ends with the status that is meant; or a write
-- fails, a prefix of the text is printed, and the status is 1.
abbrev pub Prints : List ℕ → ℕ → Option (List ℕ) → Option (List ℕ) → ℕ → Type 0
Prints text meant old new status = ((status ≡ meant) × Appends old new text) ⊎ ((status ≡ 1) × IsCut old new text)

-- What is printed where memory was refused.
abbrev pub TellsNoMemory : Option (List ℕ) → Option (List ℕ) → ℕ → Type 0
TellsNoMemory old new status = Prints (codes "no memory" ++ 10 ∷ []) 1 old new status
