-- What is left of the images after a crash.
use Rattle.std.specs.Prelude.{◌≡◌, ◌≢◌, ◌⊎◌, ℕ, List, [], Option}
use Rattle.fa_machine.specs.Among.{Among}
use Rattle.fa_machine.specs.Cells.{Cell, Broken}
use Rattle.fa_machine.specs.World.{World, HeaderTells}
use Rattle.fa_crash.specs.Unsynced.{Unsynced}

-- what is left in a slot: the present cell, one that it had since the last sync, or bytes that are neither where it had one
abbrev pub IsCellLeft : (present : Cell) (since : List Cell) (left : Cell) → Type 0
IsCellLeft present since left = (left ≡ present) ⊎ Among left since ⊎ ((left ≡ Broken) × (since ≢ []))

-- A cut: of each slot a cell that it has or had since its image's last sync, slot by slot, and likewise a header of each die.
pub record IsCut (w : World) (u : Unsynced) (cells : ℕ → ℕ → Cell) (heads : ℕ → Option HeaderTells) : Type 0 where
  pub slots : (die slot : ℕ) → IsCellLeft ((w.images die).seen slot) (u.since die slot) (cells die slot)
  pub headers : (die : ℕ) → (heads die ≡ (w.images die).header) ⊎ Among (heads die) (u.heads die)
