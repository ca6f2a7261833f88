-- What a command does with its input, and what it prints where the input cannot be read.
use Rattle.std.specs.Prelude.{◌≢◌, ◌⊎◌, ℕ, List, Option}
use Rattle.std.specs.Io.KnownBytes.{IsAtEnd}
use Rattle.std.specs.declared.io.ErrorKind.{ErrorKind}
use Rattle.std.specs.declared.io.ErrorKind.TheVariants.{Interrupted, OutOfMemory}
use Rattle.fa_io.specs.Streams.{Streams, Reads}
use Rattle.fa_prog_host.specs.Printing.{Prints, TellsNoMemory}

-- What a command prints whose input could not be read to its end, by the kind of the error: that memory was
-- refused, or that the input cannot be read.
abbrev pub GivesUp : ErrorKind → List ℕ → Option (List ℕ) → Option (List ℕ) → ℕ → Type 0
GivesUp OutOfMemory cannot_read old new status = TellsNoMemory old new status
GivesUp kind cannot_read old new status = Prints cannot_read 1 old new status

-- What a command does with its input, where Tells is what it prints of a text. It reads some bytes. Either they
-- are the whole input, and what is to be said of them is printed, or that there was no memory for it; or an error
-- came before the end, which is no interruption, and that is printed.
abbrev pub RunsOver : (List ℕ → Option (List ℕ) → Option (List ℕ) → ℕ → Type 0) → List ℕ → Streams → ℕ → Type 0
RunsOver Tells cannot_read s status =
    (text : List ℕ) × Reads s text
    × ((IsAtEnd s.left_after × (Tells text s.held_before s.held_after status ⊎ TellsNoMemory s.held_before s.held_after status))
    ⊎ ((kind : ErrorKind) × (kind ≢ Interrupted) × GivesUp kind cannot_read s.held_before s.held_after status))
