-- What is printed of arguments, and with which status a run ends then.
use Rattle.std.specs.Prelude.{◌≡◌, ◌⊎◌, ℕ, List, [], ◌∷◌, ◌++◌, codes, Option}
use Rattle.std.specs.Io.KnownBytes.{Appends}
use Rattle.std.specs.declared.io.ErrorKind.{ErrorKind}
use Rattle.std.specs.declared.io.ErrorKind.TheVariants.{OutOfMemory}
use Rattle.clap.specs.declared.error.kind.ErrorKind.{ErrorKind as Finding}
use Rattle.clap.specs.declared.error.kind.ErrorKind.TheVariants.{DisplayHelp, DisplayVersion, OutOfMemory as NoMemoryFound}
use Rattle.fa_io.specs.Streams.{IsCut}
use Rattle.fa_prog_host.specs.Printing.{Prints, TellsNoMemory}

-- The line of usage was printed, or a prefix of it, and the status is 2.
abbrev pub ShowsUsage : Option (List ℕ) → Option (List ℕ) → ℕ → Type 0
ShowsUsage old new status =
    (status ≡ 2)
    × (Appends old new (codes "usage: flasharr format | check | dump | serve | status | plan | talk [--array SETTINGS [--unclean | --recover]] | verify" ++ 10 ∷ [])
    ⊎ IsCut old new (codes "usage: flasharr format | check | dump | serve | status | plan | talk [--array SETTINGS [--unclean | --recover]] | verify" ++ 10 ∷ []))

-- A text for a person was printed, or a prefix of it, and the status is 2.
abbrev pub ShowsMistake : Option (List ℕ) → Option (List ℕ) → ℕ → Type 0
ShowsMistake old new status = (status ≡ 2) × ((text : List ℕ) × (Appends old new text ⊎ IsCut old new text))

-- What is printed of arguments that are no command: help and the version were asked for and are printed with
-- status 0, and of a mistake is printed what it is, with status 2.
abbrev pub ShowsText : Finding → Option (List ℕ) → Option (List ℕ) → ℕ → Type 0
ShowsText DisplayHelp old new status = (text : List ℕ) × Prints text 0 old new status
ShowsText DisplayVersion old new status = (text : List ℕ) × Prints text 0 old new status
ShowsText NoMemoryFound old new status = TellsNoMemory old new status
ShowsText kind old new status = ShowsMistake old new status

-- What the program does where its arguments cannot be had, by the kind of the error: it prints that memory was
-- refused, or the line of usage.
abbrev pub RefusesArguments : ErrorKind → Option (List ℕ) → Option (List ℕ) → ℕ → Type 0
RefusesArguments OutOfMemory old new status = TellsNoMemory old new status
RefusesArguments kind old new status = ShowsUsage old new status
