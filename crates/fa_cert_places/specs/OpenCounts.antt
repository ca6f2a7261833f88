-- The dies that are marked in a table, and the open rounds of each die.
use Rattle.std.specs.Prelude.{◌≡◌, ℕ, zero, suc, ◌<◌, Bool, false, if◌then◌else◌, List, [], ◌∷◌, slice_index, slice_index_or}
use Rattle.fa_types.specs.Open.{open_among}

-- the dies below a number that are marked, each once
unfoldable pub marked : List Bool → ℕ → List ℕ
marked marks zero = []
marked marks (suc n) = if slice_index_or marks n false then n ∷ marked marks n else marked marks n

-- a table has the open rounds of each die
abbrev pub AreOpenCounts : ℕ → (ℕ → ℕ → Bool) → ℕ → List ℕ → Type 0
AreOpenCounts current closed rounds open_counts = (die : ℕ) → die < 256 → slice_index open_counts die ≡ open_among current closed die rounds
