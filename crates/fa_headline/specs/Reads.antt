-- What a batch answers: of each page the bytes that the plain array had at one moment behind the batch's Admit, or as it was made.
use Rattle.std.specs.Prelude.{◌≡◌, ◌⊎◌, ℕ, List, [], ◌∷◌, ◌++◌, Ok, Some}
use Rattle.std.specs.List.{AllByRecursion}
use Rattle.fa_types.specs.declared.numbers.Slot.{Slot}
use Rattle.fa_machine.specs.Among.{Among}
use Rattle.fa_machine.specs.Cells.{Cell, DidRead, payload_of}
use Rattle.fa_machine.specs.declared.jobs.Flight.TheVariants.{Read}
use Rattle.fa_machine.specs.declared.places.Version.{Version}
use Rattle.fa_machine.specs.Reading.{Admitted, at_once}
use Rattle.fa_machine.specs.Run.{Event, Happening, Run}
use Rattle.fa_machine.specs.Step.{Admit, Done, EndBatch, Take}
use Rattle.fa_machine.specs.Taking.{Handed}
use Rattle.fa_machine.specs.World.{World, plain_page}
use Rattle.fa_laws.specs.Untouched.{EndsNoJob}

-- the batch is not ended, and none is admitted under its number
abbrev pub KeepsBatch : ℕ → Happening → Type 0
KeepsBatch batch (Event (EndBatch b answer)) = b ≡ batch → ⊥
KeepsBatch batch (Event (Admit pages (Ok admitted))) = admitted.batch.0 ≡ batch → ⊥
KeepsBatch batch happening = Unit {0}

-- what happened up to a batch's Admit, and that itself
abbrev pub up_to_admit : List Happening → List ℕ → Admitted → List Happening
up_to_admit before pages admitted = before ++ Event (Admit pages (Ok admitted)) ∷ []

-- A batch was admitted, and was not ended since.
pub record IsOpen (happenings : List Happening) (batch : ℕ) : Type 0 where
  pub before : List Happening
  pub pages : List ℕ
  pub admitted : Admitted
  pub since : List Happening
  pub order : happenings ≡ up_to_admit before pages admitted ++ since
  pub batch_is : admitted.batch.0 ≡ batch
  pub kept : AllByRecursion (KeepsBatch batch) since

-- Behind the batch's Admit a die took the read of a page, as the plain array had these bytes of it, and the read ended with them.
pub record WasRead (first : World) (admission since : List Happening) (last : World) (batch page : ℕ) (bytes : List ℕ) : Type 0 where
  pub between : List Happening
  pub at : World
  pub die : ℕ
  pub seat : ℕ
  pub job : Handed
  pub version : Version
  pub slot : Slot
  pub during : List Happening
  pub cell : Cell
  pub behind : List Happening
  pub order : since ≡ between ++ Event (Take die seat (Some job)) ∷ during ++ Event (Done die (DidRead cell)) ∷ behind
  pub led : Run first (admission ++ between) at
  pub leads : Run at (Event (Take die seat (Some job)) ∷ during ++ Event (Done die (DidRead cell)) ∷ behind) last
  pub read : job.flight ≡ Read (record { 0 = batch }) (record { 0 = page }) version slot
  pub only : AllByRecursion (EndsNoJob die) during
  pub gave : payload_of page version die slot.0 cell ≡ Some bytes
  pub plain : plain_page at page ≡ bytes

-- As the batch was admitted the page needed no read, since it was never written or is a hole, and the plain array had these bytes of it.
pub record WasAtOnce (first : World) (before : List Happening) (pages : List ℕ) (page : ℕ) (bytes : List ℕ) : Type 0 where
  pub at : World
  pub led : Run first before at
  pub among : Among page (at_once at.core.page_map pages)
  pub plain : plain_page at page ≡ bytes

-- what the batch answers for a page
abbrev pub IsAnswer : (first : World) {happenings : List Happening} (last : World) {batch : ℕ} → IsOpen happenings batch → ℕ → List ℕ
    → Type 0
IsAnswer first {happenings} last {batch} o page bytes =
    WasRead first (up_to_admit o.before o.pages o.admitted) o.since last batch page bytes ⊎ WasAtOnce first o.before o.pages page bytes

-- what an EndBatch answers, in a world to which this happened
pub record AnswersRight (first : World) (happenings : List Happening) (last : World) (batch : ℕ) (answer : List (ℕ × List ℕ)) : Type 0 where
  pub opened : IsOpen happenings batch
  pub answers : AllByRecursion (λ a. IsAnswer first last opened a.0 a.1) answer
