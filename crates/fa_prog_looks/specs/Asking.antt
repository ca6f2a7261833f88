-- What `status` prints.
use Rattle.std.specs.Prelude.{◌≡◌, ◌⊎◌, ℕ, ◌==◌, Bool, true, false, if◌then◌else◌, ◌||◌, ◌&&◌, not, List, [], ◌∷◌, ◌++◌, codes, Option}
use Rattle.std.specs.Bool.{nat_le}
use Rattle.std.specs.Io.KnownBytes.{Appends}
use Rattle.fa_io.specs.Streams.{IsCut}
use Rattle.fa_prog_host.specs.Printing.{Prints}

-- How the array is was printed, with status 0; or that there is no answer, with status 1.
abbrev pub TellsOnce : Option (List ℕ) → Option (List ℕ) → ℕ → Type 0
TellsOnce old new status = ((text : List ℕ) × Prints text 0 old new status) ⊎ Prints (codes "status: no answer" ++ 10 ∷ []) 1 old new status

-- The same once, or again and again until there is no answer or printing fails: then the status is 1.
abbrev pub TellsStatus : Bool → Option (List ℕ) → Option (List ℕ) → ℕ → Type 0
TellsStatus false old new status = TellsOnce old new status
TellsStatus true old new status = status ≡ 1

-- a byte as a terminal is shown it
abbrev pub shown_byte : ℕ → ℕ
shown_byte byte = if (byte == 10) || (nat_le 32 byte && not (byte == 127)) then byte else 63
