-- Reads whose slots are opened after they were read.
use Rattle.std.proofs.Common.{ap, refl, subst, sym, Bool, List, Some, length, ℕ, ◌+◌, ◌≡◌}
use Rattle.fa_core_outcome.specs.Outcomes.{cell_of, outcome_of as end_of}
use Rattle.fa_core_outcome.specs.declared.outcome.Outcome.{Outcome}
use Rattle.fa_image.specs.Image.{Gave, ImageAnswer, ImageCall, ReadingSlot, Refused as RefusedBy, fault_number, fault_of}
use Rattle.fa_image.specs.declared.fault.ImageFault.{ImageFault}
use Rattle.fa_jobs.proofs.Deeds.{payload_read, ran_once}
use Rattle.fa_jobs.specs.Made.{Ran}
use Rattle.fa_jobs.specs.Opens.{Opens}
use Rattle.fa_machine.specs.Cells.{Fault}
use Rattle.fa_machine.specs.Taking.{Handed}
use Rattle.fa_machine.specs.World.{GaveCell, ReadsSlot, Refused}
use Rattle.fa_machine.specs.declared.ids.BatchId.{BatchId}
use Rattle.fa_machine.specs.declared.jobs.Flight.{Flight}
use Rattle.fa_machine.specs.declared.jobs.Flight.TheVariants.{Move, Read}
use Rattle.fa_machine.specs.declared.places.Version.{Version}
use Rattle.fa_types.specs.declared.geometry.Geometry.{Geometry}
use Rattle.fa_types.specs.declared.numbers.Page.{Page}
use Rattle.fa_types.specs.declared.numbers.Slot.{Slot}

-- a slot that was read and is opened is a read that ran
pub read_ran : {I : Type 0} (made : I → ImageCall → ImageAnswer → I → Type 0) (geometry : Geometry) (array : List ℕ) (die : ℕ)
    (batch : BatchId) (page : Page) (version : Version) (slot : Slot) (payload : List ℕ) (lasting : Bool) (bytes handed : List ℕ) (n : ℕ) (outcome : Outcome) (before after : I)
    → made before (ReadingSlot slot.0) (Gave bytes) after → length bytes ≡ n + 64 → Opens bytes n outcome handed
    → Ran made geometry array die (record { flight = Read batch page version slot; payload = payload; lasting = lasting }) (end_of outcome handed) before after
read_ran made geometry array die batch page version slot payload lasting bytes handed n outcome before after link sized (opened, is, same, taken) =
    subst (λ (o : Outcome). Ran made geometry array die (record { flight = Read batch page version slot; payload = payload; lasting = lasting }) (end_of o handed) before after)
    (sym same)
    (ran_once _ _ (ReadsSlot slot.0) (GaveCell (cell_of opened handed)) _ _ refl
    (record {
      image_call = ReadingSlot slot.0;
      answer = Gave bytes;
      is_it = refl;
      given = (opened, is, ap (cell_of opened) (payload_read bytes handed n sized taken));
      link = link;
    }) refl)

-- so it is of any job that is a read
pub opened_ran : {I : Type 0} (made : I → ImageCall → ImageAnswer → I → Type 0) (geometry : Geometry) (array : List ℕ) (die : ℕ) (job : Handed)
    (batch : BatchId) (page : Page) (version : Version) (slot : Slot) (bytes handed : List ℕ) (n : ℕ) (outcome : Outcome) (before after : I)
    → job.flight ≡ Read batch page version slot → made before (ReadingSlot slot.0) (Gave bytes) after → length bytes ≡ n + 64
    → Opens bytes n outcome handed → Ran made geometry array die job (end_of outcome handed) before after
opened_ran made geometry array die job batch page version slot bytes handed n outcome before after is link sized opens =
    subst (λ (j : Handed). Ran made geometry array die j (end_of outcome handed) before after)
    (sym (ap (λ (f : Flight). record job { flight = f }) is))
    (read_ran made geometry array die batch page version slot job.payload job.lasting bytes handed n outcome before after link sized opens)

-- a slot that was refused is a read that ran
pub refused_ran : {I : Type 0} (made : I → ImageCall → ImageAnswer → I → Type 0) (geometry : Geometry) (array : List ℕ) (die : ℕ)
    (job : Handed) (batch : BatchId) (page : Page) (version : Version) (slot : Slot) (fault : ImageFault) (before after : I)
    → job.flight ≡ Read batch page version slot → made before (ReadingSlot slot.0) (RefusedBy fault) after
    → fault_number fault ≡ fault_number (fault_of (ReadingSlot slot.0)) → Ran made geometry array die job (Fault (fault_number fault)) before after
refused_ran made geometry array die job batch page version slot fault before after is link same =
    subst (λ (j : Handed). Ran made geometry array die j (Fault (fault_number fault)) before after)
    (sym (ap (λ (f : Flight). record job { flight = f }) is))
    (ran_once _ _ (ReadsSlot slot.0) Refused _ _ refl
    (record { image_call = ReadingSlot slot.0; answer = RefusedBy fault; is_it = refl; given = tt; link = link })
    (ap (λ n. Some (Fault n)) (sym same)))

-- so it is of a move whose slot was refused
pub refused_move_ran : {I : Type 0} (made : I → ImageCall → ImageAnswer → I → Type 0) (geometry : Geometry) (array : List ℕ) (die : ℕ)
    (job : Handed) (page : Page) (version : Version) (from to : Slot) (fault : ImageFault) (before after : I)
    → job.flight ≡ Move page version from to → made before (ReadingSlot from.0) (RefusedBy fault) after
    → fault_number fault ≡ fault_number (fault_of (ReadingSlot from.0)) → Ran made geometry array die job (Fault (fault_number fault)) before after
refused_move_ran made geometry array die job page version from to fault before after is link same =
    subst (λ (j : Handed). Ran made geometry array die j (Fault (fault_number fault)) before after)
    (sym (ap (λ (f : Flight). record job { flight = f }) is))
    (ran_once _ _ (ReadsSlot from.0) Refused _ _ refl
    (record { image_call = ReadingSlot from.0; answer = RefusedBy fault; is_it = refl; given = tt; link = link })
    (ap (λ n. Some (Fault n)) (sym same)))
