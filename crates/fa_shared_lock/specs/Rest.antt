-- What is left of a locked array by whoever makes no Commit, and events behind a Fold.
use Rattle.std.specs.Prelude.{◌≡◌, true}
use Rattle.fa_core_calls.specs.declared.call.Call.{Call}
use Rattle.fa_core_calls.specs.declared.call.Call.TheVariants.{Commit}
use Rattle.fa_machine.specs.Conditions.{history_full}
use Rattle.fa_machine.specs.State.{Core}
use Rattle.fa_machine.specs.Step.{Act, Fold, Step}
use Rattle.fa_shared_lock.specs.Locked.{LockedState}
use Rattle.fa_shared_lock.specs.Seats.{commits_with, number_of}
use Rattle.fa_shared_lock.specs.declared.seat.Seat.{Seat}

module _ {L : Type 0} where
  -- Nothing is committed, and nothing of the locked array has changed but its state.
  pub record LeavesRest (old : LockedState) (before : Seat L) (new : LockedState) (after : Seat L) : Type 0 where
    pub rest : new ≡ record old { core = new.core }
    pub commits : commits_with after ≡ commits_with before
    pub number : number_of after ≡ number_of before

-- A Fold where the history is full, and else nothing.
pub data Folds (old new : Core) : Type 0 where
  Folded : history_full old ≡ true → Step old Fold new → Folds old new
  HadRoom : new ≡ old → Folds old new

-- An event, behind a Fold where the history is full.
pub record MakesFolded (old : Core) (act : Act) (new : Core) : Type 0 where
  pub between : Core
  pub folds : Folds old between
  pub step : Step between act new

-- any call but a Commit
abbrev pub IsNoCommit : {A : Type 0} → Call A → Type 0
IsNoCommit (Commit claim) = ⊥
IsNoCommit call = Unit {0}
