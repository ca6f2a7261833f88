-- The command `verify --log`: what is printed of a file of plans.
use Rattle.std.specs.Prelude.{◌≡◌, ◌⊎◌, ℕ, ◌+◌, ◌==◌, if◌then◌else◌, List, [], ◌∷◌, ◌++◌, codes, Option}
use Rattle.std.specs.Fmt.{decimal}
use Rattle.std.specs.declared.io.ErrorKind.{ErrorKind}
use Rattle.std.specs.declared.io.ErrorKind.TheVariants.{OutOfMemory}
use Rattle.fa_prog_host.specs.Printing.{Prints, TellsNoMemory}
use Rattle.fa_prog_text.specs.Verify.{judged_text}
use Rattle.fa_prog_text.specs.declared.verify.Judged.TheVariants.{Line as JudgedLine}
use Rattle.fa_prog_text.specs.declared.verify_log.Checked.{Checked}
use Rattle.fa_prog_text.specs.declared.verify_log.Checked.TheVariants.{Line, Tally}

-- each plan that was counted is least or refused
abbrev pub AddsUp : Checked → Type 0
AddsUp (Line number) = Unit {0}
AddsUp (Tally tally) = tally.plans ≡ tally.least + tally.refused

-- the line that is printed
unfoldable pub checked_text : Checked → List ℕ
checked_text (Line number) = judged_text (JudgedLine number)
checked_text (Tally tally) =
    codes "plans " ++ (decimal tally.plans ++ (codes " least " ++ (decimal tally.least ++ (codes " refused " ++ (decimal tally.refused
    ++ (codes " rounds " ++ (decimal tally.rounds ++ 10 ∷ [])))))))

-- the status of the run that prints it
abbrev pub checked_status : Checked → ℕ
checked_status (Line number) = 2
checked_status (Tally tally) = if tally.refused == 0 then 0 else 1

-- What is printed where the file was not read to its end, by the kind of the error.
abbrev pub GivesUpOnFile : ErrorKind → Option (List ℕ) → Option (List ℕ) → ℕ → Type 0
GivesUpOnFile OutOfMemory old new status = TellsNoMemory old new status
GivesUpOnFile kind old new status = Prints (codes "plans: cannot read" ++ 10 ∷ []) 2 old new status

-- What is printed: what some file comes to, or that it cannot be read, or that there is no memory. Which file it is no clause can say.
abbrev pub TellsLog : Option (List ℕ) → Option (List ℕ) → ℕ → Type 0
TellsLog old new status =
    ((checked : Checked) × AddsUp checked × Prints (checked_text checked) (checked_status checked) old new status)
    ⊎ ((kind : ErrorKind) × GivesUpOnFile kind old new status)
