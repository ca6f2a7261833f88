-- Turns of a die, from what their events tell.
use Rattle.std.proofs.Common.{◌≡◌, ℕ, Option, subst}
use Rattle.fa_machine.specs.State.{Core}
use Rattle.fa_machine.specs.Step.{Step, Take}
use Rattle.fa_machine.specs.Taking.{Handed}
use Rattle.fa_machine.specs.declared.refusals.AdvanceRefused.{AdvanceRefused}
use Rattle.fa_workers.specs.DieTurns.{TakesNext}
use Rattle.fa_shared_lock.specs.Rest.{Folds, MakesFolded}
use Rattle.fa_workers.specs.declared.die_events.Next.{Next}

-- a Take behind a Fold, with the number of the seat before it
pub took : {old between new : Core} {die seat same : ℕ} {answer : Option Handed} → Folds old between → same ≡ seat
    → Step between (Take die same answer) new → MakesFolded old (Take die seat answer) new
took {between = between} {new = new} {die = die} {answer = answer} folds e step = record {
  between = between;
  folds = folds;
  step = let P : ℕ → Type 0 = λ n. Step between (Take die n answer) new in subst P e step;
}

-- what a die takes, with the number of the seat before it
pub same_seat : {A : Type 0} {old new : Core} {die seat same : ℕ} {before : AdvanceRefused} {next : Next A} → same ≡ seat
    → TakesNext die same before old next new → TakesNext die seat before old next new
same_seat {A = A} {old = old} {new = new} {die = die} {before = before} {next = next} e takes =
    let P : ℕ → Type 0 = λ n. TakesNext {A = A} die n before old next new in subst P e takes
