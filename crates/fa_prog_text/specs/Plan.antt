-- The command `plan`: a batch text, and the certificate text that is printed of it.
use Rattle.std.specs.Prelude.{◌⊎◌, ℕ, List, [], ◌∷◌, ◌++◌, codes, Option}
use Rattle.fa_types.specs.declared.numbers.Page.{Page}
use Rattle.fa_batch_terms.specs.declared.unsound.Unsound.{Unsound as BatchUnsound}
use Rattle.fa_closed.specs.declared.closed.Run.{Run}
use Rattle.fa_batch_terms.specs.declared.place.Place.{Place}
use Rattle.fa_batch_terms.specs.Batch.{Entry, IsSound, IsFirstWrong}
use Rattle.fa_texts.specs.BatchText.{IsBatchText}
use Rattle.fa_batch_terms.specs.Certificate.{IsCertificate}
use Rattle.fa_texts.specs.CertificateText.{IsPrinted}
use Rattle.fa_batch_terms.specs.Plan.{AreFirstRounds}
use Rattle.fa_closed.specs.Runs.{any_closes}
use Rattle.fa_texts.specs.Text.{IsFirstWrongLine, words_by_line}
use Rattle.fa_io.specs.Streams.{Streams}
use Rattle.fa_prog_host.specs.Printing.{Prints}
use Rattle.fa_prog_text.specs.Output.{RunsOver}
use Rattle.fa_prog_text.specs.Verify.{judged_text}
use Rattle.fa_prog_text.specs.declared.plan.PlanFault.{PlanFault}
use Rattle.fa_prog_text.specs.declared.plan.PlanFault.TheVariants.{Line, NoMemory, Unsound}
use Rattle.fa_prog_text.specs.declared.verify.Judged.TheVariants.{Line as JudgedLine, Unsound as JudgedUnsound}

-- lines that are a batch text, and nothing more
abbrev pub IsSomeBatch : List (List (List ℕ)) → Type 0
IsSomeBatch lines = (entries : List Entry) × (runs : List Run) × IsBatchText lines entries runs

-- What is printed of an input: the text of a certificate, from round 1 on, of the batch that it says, which is sound.
pub record IsPlanText (input : List ℕ) (out : List ℕ) : Type 0 where
  pub entries : List Entry
  pub runs : List Run
  pub rounds : ℕ
  pub places : List Place
  pub pages : List Page
  pub batch : IsBatchText (words_by_line input) entries runs
  pub sound : IsSound entries
  pub certificate : IsCertificate entries 1 (any_closes runs) rounds places pages
  pub first : AreFirstRounds 1 (any_closes runs) places
  pub printed : IsPrinted rounds places pages out

-- Why an input has no plan: its first wrong line, or else what makes the batch unsound.
abbrev pub IsPlanFault : List ℕ → PlanFault → Type 0
IsPlanFault input (Line number) = IsFirstWrongLine IsSomeBatch 1 (words_by_line input) number
IsPlanFault input (Unsound unsound) =
    (entries : List Entry) × (runs : List Run) × IsBatchText (words_by_line input) entries runs × IsFirstWrong entries unsound
IsPlanFault input NoMemory = Unit {0}

-- What is printed of a text: a certificate text with status 0, or why there is none, as `verify` says it, with status 2.
abbrev pub TellsPlan : List ℕ → Option (List ℕ) → Option (List ℕ) → ℕ → Type 0
TellsPlan text old new status =
    ((out : List ℕ) × IsPlanText text out × Prints out 0 old new status)
    ⊎ ((number : ℕ) × IsPlanFault text (Line number) × Prints (judged_text (JudgedLine number)) 2 old new status)
    ⊎ ((unsound : BatchUnsound) × IsPlanFault text (Unsound unsound) × Prints (judged_text (JudgedUnsound unsound)) 2 old new status)

-- What the command does.
abbrev pub RunsPlan : Streams → ℕ → Type 0
RunsPlan s status = RunsOver TellsPlan (codes "plan: cannot read" ++ 10 ∷ []) s status
