-- How syncs come and go: what single events change of what dies have synced, of their jobs, and of how many flushes were begun.
use Rattle.std.specs.Prelude.{◌≡◌, ◌⊎◌, ℕ, suc, Bool, true, false, List, [], ◌∷◌, None, Ok, Some}
use Rattle.std.specs.FinMap.{get, insert, remove}
use Rattle.fa_machine.specs.Cells.{DidSync}
use Rattle.fa_machine.specs.Run.{Happening, Event}
use Rattle.fa_machine.specs.State.{Core}
use Rattle.fa_machine.specs.Step.{Act, Done, FlushBegin, Take}
use Rattle.fa_machine.specs.declared.jobs.Flight.{Flight}
use Rattle.fa_machine.specs.declared.jobs.Flight.TheVariants.{Sync}

-- What a die has synced is what the sync says that it ends, and nothing where it goes out. Nothing else changes it.
abbrev pub KeepsSynced : Core → Act → Core → Type 0
KeepsSynced old (Done die DidSync) new =
    (flushes : ℕ) × (get old.jobs die ≡ Some (Sync flushes)) × (new.synced ≡ insert old.synced die flushes)
KeepsSynced old (Done die outcome) new =
    (new.synced ≡ old.synced) ⊎ ((new.synced ≡ remove old.synced die) × (new.page_map.live ≡ remove old.page_map.live die))
KeepsSynced old act new = new.synced ≡ old.synced

-- a sync that is handed out says how many flushes were begun
abbrev pub IsOfNow : Core → Flight → Type 0
IsOfNow core (Sync flushes) = flushes ≡ core.flushes
IsOfNow core flight = Unit {0}

-- the job of one die begins or ends, and no other's
pub record OtherJobsKept (old : Core) (die : ℕ) (new : Core) : Type 0 where
  pub others : (other : ℕ) → (other ≡ die → ⊥) → get new.jobs other ≡ get old.jobs other

-- A job is handed out by a Take to a die that has none, and stays what it is until the die's Done.
abbrev pub KeepsJobs : Core → Act → Core → Type 0
KeepsJobs old (Take die seat (Some job)) new =
    (get old.jobs die ≡ None) × (get new.jobs die ≡ Some job.flight) × IsOfNow old job.flight × OtherJobsKept old die new
KeepsJobs old (Done die outcome) new = (get new.jobs die ≡ None) × OtherJobsKept old die new
KeepsJobs old act new = new.jobs ≡ old.jobs

-- how many flushes were begun rises by FlushBegin alone
abbrev pub KeepsFlushes : Core → Act → Core → Type 0
KeepsFlushes old (FlushBegin (Ok flush)) new = (new.flushes ≡ suc old.flushes) × (flush.number ≡ new.flushes)
KeepsFlushes old act new = new.flushes ≡ old.flushes

abbrev pub is_sync : Flight → Bool
is_sync (Sync flushes) = true
is_sync flight = false

-- the job of the die that ends first ends as a sync
abbrev pub EndsSync : ℕ → List Happening → Type 0
EndsSync die [] = ⊥
EndsSync die (Event (Done d outcome) ∷ rest) = ((d ≡ die) × (outcome ≡ DidSync)) ⊎ ((d ≡ die → ⊥) × EndsSync die rest)
EndsSync die (happening ∷ rest) = EndsSync die rest

-- the die takes a sync, and that ends
abbrev pub TakesAndEndsSync : ℕ → List Happening → Type 0
TakesAndEndsSync die [] = ⊥
TakesAndEndsSync die (Event (Take d seat (Some job)) ∷ rest) =
    ((d ≡ die) × (is_sync job.flight ≡ true) × EndsSync die rest) ⊎ TakesAndEndsSync die rest
TakesAndEndsSync die (happening ∷ rest) = TakesAndEndsSync die rest
