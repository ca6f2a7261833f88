-- The command `verify`: a batch text with a certificate text behind it, and what is printed of them.
use Rattle.std.specs.Prelude.{◌≡◌, ℕ, List, [], ◌∷◌, ◌++◌, codes, Option}
use Rattle.std.specs.Fmt.{decimal}
use Rattle.fa_types.specs.declared.numbers.Page.{Page}
use Rattle.fa_batch_terms.specs.declared.unsound.Unsound.TheVariants.{NoHolder, Twice}
use Rattle.fa_closed.specs.declared.closed.Run.{Run}
use Rattle.fa_batch_terms.specs.declared.place.Place.{Place}
use Rattle.fa_cert.specs.declared.verdict.Verdict.TheVariants.{Least, Refused}
use Rattle.fa_batch_terms.specs.Batch.{Entry, IsSound, IsFirstWrong}
use Rattle.fa_texts.specs.LoggedPlan.{AreTexts}
use Rattle.fa_closed.specs.Runs.{any_closes}
use Rattle.fa_texts.specs.Text.{words_by_line, IsFirstWrongLine}
use Rattle.fa_cert.specs.Verdict.{IsVerdict, verdict_text}
use Rattle.fa_io.specs.Streams.{Streams}
use Rattle.fa_prog_host.specs.Printing.{Prints}
use Rattle.fa_prog_text.specs.Output.{RunsOver}
use Rattle.fa_prog_text.specs.declared.verify.Judged.{Judged}
use Rattle.fa_prog_text.specs.declared.verify.Judged.TheVariants.{Line, Unsound, Verdict}

-- lines that are a batch text with a certificate text at once behind it, and nothing more
abbrev pub AreSomeTexts : List (List (List ℕ)) → Type 0
AreSomeTexts lines =
    (entries : List Entry) × (runs : List Run) × (rounds : ℕ) × (places : List Place) × (pages : List Page)
    × AreTexts lines entries runs rounds places pages

-- What an input comes to: its first wrong line, or else what makes the batch unsound, or else the verdict of
-- the check from round 1 on.
abbrev pub IsJudged : List ℕ → Judged → Type 0
IsJudged input (Line number) = IsFirstWrongLine AreSomeTexts 1 (words_by_line input) number
IsJudged input (Unsound unsound) =
    (entries : List Entry) × (runs : List Run) × (rounds : ℕ) × (places : List Place) × (pages : List Page)
    × AreTexts (words_by_line input) entries runs rounds places pages × IsFirstWrong entries unsound
IsJudged input (Verdict verdict) =
    (entries : List Entry) × (runs : List Run) × (rounds : ℕ) × (places : List Place) × (pages : List Page)
    × AreTexts (words_by_line input) entries runs rounds places pages × IsSound entries
    × IsVerdict entries 1 (any_closes runs) rounds places pages verdict

-- the line that is printed
unfoldable pub judged_text : Judged → List ℕ
judged_text (Line number) = codes "text: line " ++ decimal number ++ 10 ∷ []
judged_text (Unsound (NoHolder page)) = codes "unsound: page " ++ decimal page.0 ++ codes " has no holder" ++ 10 ∷ []
judged_text (Unsound (Twice page)) = codes "unsound: page " ++ decimal page.0 ++ codes " stands twice" ++ 10 ∷ []
judged_text (Verdict verdict) = verdict_text verdict ++ 10 ∷ []

-- the status of the run that prints it
abbrev pub judged_status : Judged → ℕ
judged_status (Line number) = 2
judged_status (Unsound unsound) = 2
judged_status (Verdict (Least rounds)) = 0
judged_status (Verdict (Refused refusal)) = 1

-- What is printed of a text: what it comes to, and nothing else.
abbrev pub TellsVerify : List ℕ → Option (List ℕ) → Option (List ℕ) → ℕ → Type 0
TellsVerify text old new status =
    (judged : Judged) × IsJudged text judged × Prints (judged_text judged) (judged_status judged) old new status

-- What the command does.
abbrev pub RunsVerify : Streams → ℕ → Type 0
RunsVerify s status = RunsOver TellsVerify (codes "verify: cannot read" ++ 10 ∷ []) s status
