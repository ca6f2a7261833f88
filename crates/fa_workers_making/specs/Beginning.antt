-- Jobs whose first call was made, and moves that go on behind it.
use Rattle.std.specs.Prelude.{◌≡◌, ℕ, List}
use Rattle.fa_core_outcome.specs.Outcomes.{outcome_of as end_of}
use Rattle.fa_core_outcome.specs.declared.outcome.Outcome.{Outcome as JobOutcome}
use Rattle.fa_core_outcome.specs.declared.outcome.Outcome.TheVariants.{Read as WasRead, Fault as WasFault}
use Rattle.fa_image.specs.Image.{Gave as GaveBytes, ImageAnswer, ImageCall, ReadingSlot, Refused as RefusedBy}
use Rattle.fa_image.specs.declared.fault.ImageFault.{ImageFault}
use Rattle.fa_jobs.specs.Made.{Ran}
use Rattle.fa_machine.specs.Taking.{Handed}
use Rattle.fa_machine.specs.declared.ids.BatchId.{BatchId}
use Rattle.fa_machine.specs.declared.jobs.Flight.TheVariants.{Move, Read}
use Rattle.fa_machine.specs.declared.places.Version.{Version}
use Rattle.fa_tag.specs.declared.tag.Opened.TheVariants.{Bad}
use Rattle.fa_types.specs.declared.geometry.Geometry.{Geometry}
use Rattle.fa_types.specs.declared.numbers.Page.{Page}
use Rattle.fa_types.specs.declared.numbers.Slot.{Slot}
use Rattle.fa_workers_making.specs.declared.order.Begun.{Begun}
use Rattle.fa_workers_making.specs.declared.order.Begun.TheVariants.{Over, SlotRead}

module _ {I : Type 0} (made : I → ImageCall → ImageAnswer → I → Type 0) where
  -- The image refused to read the slot, and the job ends by that.
  abbrev pub IsRefused : ℕ → JobOutcome → I → I → Type 0
  IsRefused slot outcome before after =
      (fault : ImageFault) × (outcome ≡ WasFault fault) × made before (ReadingSlot slot) (RefusedBy fault) after

module _ {I : Type 0} (made : I → ImageCall → ImageAnswer → I → Type 0) (geometry : Geometry) (array : List ℕ) (die : ℕ) where
  -- The job ran, or its slot was read into these bytes. A read stands as one of a bad slot until that is opened, and a move is to go on.
  pub data Begins (job : Handed) (begun : Begun) (slot_bytes page_bytes : List ℕ) (before after : I) : Type 0 where
    HasRun : (outcome : JobOutcome) → begun ≡ Over outcome → Ran made geometry array die job (end_of outcome page_bytes) before after
        → Begins job begun slot_bytes page_bytes before after
    HasRead : (batch : BatchId) (page : Page) (version : Version) (slot : Slot) → job.flight ≡ Read batch page version slot
        → begun ≡ Over (WasRead Bad) → made before (ReadingSlot slot.0) (GaveBytes slot_bytes) after
        → Begins job begun slot_bytes page_bytes before after
    HasReadMove : (page : Page) (version : Version) (from to : Slot) → job.flight ≡ Move page version from to
        → begun ≡ SlotRead → made before (ReadingSlot from.0) (GaveBytes slot_bytes) after
        → Begins job begun slot_bytes page_bytes before after

  -- The job, if it is a move, has run from where its slot was read into these bytes.
  abbrev pub EndsMove : Handed → JobOutcome → List ℕ → I → I → Type 0
  EndsMove job outcome slot_bytes middle after =
      (page : Page) (version : Version) (from to : Slot) (before : I) (page_bytes : List ℕ) → job.flight ≡ Move page version from to
      → made before (ReadingSlot from.0) (GaveBytes slot_bytes) middle → Ran made geometry array die job (end_of outcome page_bytes) before after
