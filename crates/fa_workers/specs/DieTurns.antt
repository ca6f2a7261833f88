-- A turn of a die, and how its job ends.
use Rattle.std.specs.Prelude.{◌≡◌, ◌⊎◌, ℕ, Bool, ◌&&◌, false, List, Option, Some, None, Result, Ok, Err}
use Rattle.std.specs.FinMap.{get}
use Rattle.std.specs.Option.{option_map_or}
use Rattle.fa_core_outcome.specs.Outcomes.{outcome_of}
use Rattle.fa_core_outcome.specs.declared.outcome.Outcome.{Outcome}
use Rattle.fa_machine.specs.Cells.{is_of_kind}
use Rattle.fa_machine.specs.State.{Core, is_live}
use Rattle.fa_machine.specs.Step.{Advance, Done, Step, Take, is_die, is_sized}
use Rattle.fa_machine.specs.declared.refusals.AdvanceRefused.{AdvanceRefused}
use Rattle.fa_machine.specs.declared.refusals.AdvanceRefused.TheVariants.{Pending}
use Rattle.fa_faults.specs.Causes.{fault_of}
use Rattle.fa_faults.specs.declared.faults.Fault.{Fault}
use Rattle.fa_core_outcome.specs.Handed.{handed_of}
use Rattle.fa_types.specs.declared.numbers.Die.{Die}
use Rattle.fa_types.specs.declared.numbers.Round.{Round}
use Rattle.fa_shared_lock.specs.Rest.{MakesFolded}
use Rattle.fa_workers.specs.declared.die_events.Next.{Next}
use Rattle.fa_workers.specs.declared.die_events.Next.TheVariants.{Run, Again, Rest}
use Rattle.fa_workers_making.specs.declared.order.Order.{Order}

module _ {A : Type 0} where
  -- The die rests where the round is pending, and others are told where it is so no longer.
  abbrev pub after_look : Result Round AdvanceRefused → Next A
  after_look (Err Pending) = Rest
  after_look answer = Again

  -- Behind a Take that gave no job. Where the round was pending before it, the Take may have dropped a booking, and the die looks again.
  pub data Rests (before : AdvanceRefused) (old : Core) (next : Next A) (new : Core) : Type 0 where
    WasOpen : (before ≡ Pending → ⊥) → next ≡ Rest → new ≡ old → Rests before old next new
    LooksAgain : (answer : Result Round AdvanceRefused) → before ≡ Pending → Step old (Advance answer) new → next ≡ after_look answer
        → Rests before old next new

  -- The die takes its next job, or rests where there is none.
  pub data TakesNext (die seat : ℕ) (before : AdvanceRefused) (old : Core) (next : Next A) (new : Core) : Type 0 where
    Took : (order : Order A) → next ≡ Run order → order.die.0 ≡ die → MakesFolded old (Take die seat (Some (handed_of order.job))) new
        → TakesNext die seat before old next new
    TookNone : (between : Core) → MakesFolded old (Take die seat None) between → Rests before between next new
        → TakesNext die seat before old next new

  -- A turn of a die: the round rises, or else the die takes its next job.
  pub data Turns (die seat : ℕ) (old : Core) (next : Next A) (new : Core) : Type 0 where
    Rose : (round : Round) → next ≡ Again → Step old (Advance (Ok round)) new → Turns die seat old next new
    Stayed : (refused : AdvanceRefused) (between : Core) → Step old (Advance (Err refused)) between
        → TakesNext die seat refused between next new → Turns die seat old next new
    IsNone : is_die old die ≡ false → next ≡ Rest → new ≡ old → Turns die seat old next new

-- whether a die's job may end so, with these bytes beside it
abbrev pub may_end : Core → ℕ → Outcome → List ℕ → Bool
may_end core die outcome bytes =
    option_map_or (λ job. is_of_kind job (outcome_of outcome bytes)) (get core.jobs die) false && is_sized core bytes

-- It ends so, or it may not.
abbrev pub Ends : ℕ → Outcome → List ℕ → Core → Core → Type 0
Ends die outcome bytes old new =
    Step old (Done die (outcome_of outcome bytes)) new ⊎ ((may_end old die outcome bytes ≡ false) × (new ≡ old))

-- what is noted of a die whose job ended so, and in which round
abbrev pub noted : Core → Core → Die → Outcome → Option Fault
noted old new die outcome =
    fault_of (is_live old.page_map die.0) (is_live new.page_map die.0) die outcome (record { 0 = new.calendar.round })
