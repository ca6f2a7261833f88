-- What the rebuilder does: at most one event that is accepted in a turn, and how far it is behind it.
use Rattle.std.specs.Prelude.{◌≡◌, ◌⊎◌, ℕ, Bool, true, false, List, [], ◌∷◌, map, option_map, Some, Result, Ok, Err}
use Rattle.std.specs.FinMap.{get}
use Rattle.fa_machine.specs.Conditions.{batch_open, copy_open}
use Rattle.fa_machine.specs.Reading.{Admitted, results}
use Rattle.fa_machine.specs.State.{Core}
use Rattle.fa_machine.specs.Step.{Act, Step, Admit, CommitCopy, EndBatch, ReserveCopy, SpareIn}
use Rattle.fa_machine.specs.declared.answers.Copied.{Copied}
use Rattle.fa_machine.specs.declared.answers.ReadState.{ReadState}
use Rattle.fa_machine.specs.declared.answers.ReadState.TheVariants.{Ready}
use Rattle.fa_machine.specs.declared.refusals.AdmitRefused.{AdmitRefused}
use Rattle.fa_machine.specs.declared.refusals.CommitCopyRefused.{CommitCopyRefused}
use Rattle.fa_machine.specs.declared.refusals.CommitCopyRefused.TheVariants.{Pending, Failed}
use Rattle.fa_machine.specs.declared.refusals.ReserveCopyRefused.{ReserveCopyRefused}
use Rattle.fa_machine.specs.declared.refusals.ReserveCopyRefused.TheVariants.{Gone, NoRoom, Busy, NoMemory}
use Rattle.fa_shared_lock.specs.Locked.{LockedState}
use Rattle.fa_workers.specs.declared.rebuild_stage.RebuildStage.{RebuildStage}
use Rattle.fa_workers.specs.declared.rebuild_stage.RebuildStage.TheVariants.{Looking, Pausing, Reading, Read, Reserving, Copying, Ended}
use Rattle.fa_workers.specs.declared.rebuild_stage.ThinPage.{ThinPage}

-- The page has this number now.
abbrev pub IsNumbered : Core → ThinPage → Type 0
IsNumbered core thin = option_map (λ version. version.seq) (get core.page_map.versions thin.page.0) ≡ Some thin.seq

module _ {A : Type 0} where
  abbrev pub after_admit : ThinPage → Result Admitted AdmitRefused → RebuildStage A
  after_admit thin (Ok admitted) = Reading thin admitted.batch
  after_admit thin (Err refused) = Looking

  -- What the batch gave is copied where each page has its answer, and nothing of it where the array is to end.
  abbrev pub AfterBatch : Bool → ReadState → ThinPage → List (ℕ × List ℕ) → RebuildStage A → Type 0
  AfterBatch stops state thin answers Ended = stops ≡ true
  AfterBatch stops state thin answers Looking = (stops ≡ false) × (state ≡ Ready → ⊥)
  AfterBatch stops state thin answers (Read page given) =
      (stops ≡ false) × (state ≡ Ready) × (page ≡ thin) × (answers ≡ map (λ e. (e.0.0, e.1.items)) given.items)
  AfterBatch stops state thin answers next = ⊥

  abbrev pub after_reserve : RebuildStage A → Result (Unit {0}) ReserveCopyRefused → RebuildStage A
  after_reserve stage (Ok done) = Copying
  after_reserve stage (Err Gone) = Looking
  after_reserve stage (Err NoRoom) = Looking
  after_reserve stage (Err Busy) = stage
  after_reserve stage (Err NoMemory) = stage

  abbrev pub after_commit : Result Copied CommitCopyRefused → RebuildStage A
  after_commit (Ok copied) = Looking
  after_commit (Err Pending) = Copying
  after_commit (Err Failed) = Looking

  -- Which event the rebuilder makes at each stage, of its own page and batch alone, and how far it is then. It begins nothing where the
  -- array is to end.
  abbrev pub Moves : LockedState → RebuildStage A → Act → RebuildStage A → Type 0
  Moves old Looking (SpareIn die (Ok done)) next = (old.stopping ≡ false) × (next ≡ Looking)
  Moves old Looking (Admit (page ∷ []) answer) next =
      (old.stopping ≡ false) × (thin : ThinPage) × IsNumbered old.core thin × (page ≡ thin.page.0) × (next ≡ after_admit thin answer)
  Moves old (Reading thin batch) (EndBatch b answers) next =
      (b ≡ batch.0) × AfterBatch old.stopping (results old.core batch.0) thin answers next
  Moves old (Reserving thin payload) (ReserveCopy page seq bytes answer) next =
      (old.stopping ≡ false) × (page ≡ thin.page.0) × (seq ≡ thin.seq.0) × (bytes ≡ payload)
      × (next ≡ after_reserve (Reserving thin payload) answer)
  Moves old Copying (CommitCopy answer) next = next ≡ after_commit answer
  Moves old stage act next = ⊥

  -- Where the rebuilder makes no event it stays, or ends where the array is to. A batch that is not open, or a copy, is gone for it.
  abbrev pub Stays : LockedState → RebuildStage A → RebuildStage A → Type 0
  Stays old Looking next = ((old.stopping ≡ false) × (next ≡ Looking)) ⊎ ((old.stopping ≡ true) × (next ≡ Ended))
  Stays old Pausing next = ((old.stopping ≡ false) × (next ≡ Looking)) ⊎ ((old.stopping ≡ true) × (next ≡ Ended))
  Stays old (Reading thin batch) next =
      ((old.stopping ≡ false) × (next ≡ Reading thin batch)) ⊎ ((batch_open old.core batch.0 ≡ false) × (next ≡ Looking))
  Stays old (Reserving thin payload) next = ((old.stopping ≡ false) × (next ≡ Looking)) ⊎ ((old.stopping ≡ true) × (next ≡ Ended))
  Stays old Copying next = (copy_open old.core ≡ false) × (next ≡ Looking)
  Stays old stage next = next ≡ stage

  -- a turn of the rebuilder
  pub data Rebuilds (old : LockedState) (stage : RebuildStage A) (new : Core) (next : RebuildStage A) : Type 0 where
    Stayed : new ≡ old.core → Stays old stage next → Rebuilds old stage new next
    Moved : (act : Act) → Step old.core act new → Moves old stage act next → Rebuilds old stage new next
