-- Runs over images that write their slots and headers whole, with what is unsynced in each of their worlds.
use Rattle.std.specs.Prelude.{◌≡◌, ◌⊎◌, ℕ, Bool, true, List, [], ◌∷◌, Option, Some}
use Rattle.fa_machine.specs.Cells.{Cell, Empty, Broken}
use Rattle.fa_machine.specs.Collecting.{is_in_block}
use Rattle.fa_machine.specs.Run.{Happening, Event, ImageCall, Happens}
use Rattle.fa_machine.specs.World.{World, JobCall, ProgramsSlot, ErasesBlock, WritesHeader, Gave, Refused, DieImage}
use Rattle.fa_crash.specs.Unsynced.{Unsynced, call_of, unsynced_behind}

-- what a refused write leaves in a slot: what stood there, what was asked for, or bytes that are neither
abbrev pub IsLeft : (before asked left : Cell) → Type 0
IsLeft before asked left = (left ≡ before) ⊎ (left ≡ asked) ⊎ (left ≡ Broken)

-- A refused program, erase or header leaves old or new in what it was to write, or breaks a slot.
abbrev pub IsWholeCall : (ℕ → ℕ → Bool) → Option JobCall → Gave → DieImage → DieImage → Type 0
IsWholeCall is_of (Some (ProgramsSlot slot cell)) Refused before after = IsLeft (before.seen slot) cell (after.seen slot)
IsWholeCall is_of (Some (ErasesBlock block)) Refused before after =
    (slot : ℕ) → is_of block slot ≡ true → IsLeft (before.seen slot) Empty (after.seen slot)
IsWholeCall is_of (Some (WritesHeader epoch live)) Refused before after =
    (after.header ≡ before.header) ⊎ (after.header ≡ Some (record { epoch = epoch; live = live }))
IsWholeCall is_of call gave before after = Unit {0}

abbrev pub IsWhole : World → Happening → World → Type 0
IsWhole before (Event act) after = Unit {0}
IsWhole before (ImageCall die gave) after =
    IsWholeCall (is_in_block before.core.page_map) (call_of before die) gave (before.images die) (after.images die)

-- A run in which each refused write is whole, with what is unsynced before it and behind it. A crash in the middle of a call is one
-- behind a run that ends with this call refused.
abbrev pub RunWhole : World → Unsynced → List Happening → World → Unsynced → Type 0
RunWhole before u [] after v = (after ≡ before) × (v ≡ u)
RunWhole before u (happening ∷ happenings) after v =
    (middle : World) × Happens before happening middle × IsWhole before happening middle
    × RunWhole middle (unsynced_behind before happening u) happenings after v
