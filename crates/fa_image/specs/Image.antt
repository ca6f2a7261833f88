-- An image of a die as its callers see it, and one call of it with its answer.
use Rattle.std.specs.Prelude.{◌≡◌, ℕ, ◌+◌, ◌*◌, ◌%◌, ◌^◌, ◌<◌, Bool, List, [], ◌∷◌, ◌++◌, length, take, drop, replicate, IsTrue}
use Rattle.std.specs.Prelude.{slice_index_or}
use Rattle.std.specs.List.{AllByRecursion}
use Rattle.fa_types.specs.declared.geometry.Geometry.{Geometry}
use Rattle.fa_image.specs.declared.fault.ImageFault.{ImageFault}
use Rattle.fa_image.specs.declared.fault.ImageFault.TheVariants.{ReadSlot, Program, EraseBlock, ReadHeader, WriteHeader, Sync}

-- What is seen of an image. No call changes the geometry.
pub record ImageState : Type 0 where
  pub geometry : Geometry
  pub slots : List (List ℕ)
  pub header : List ℕ
  -- how many syncs were accepted, and how many calls refused; after 2^64 - 1 comes 0
  pub syncs : ℕ
  pub faults : ℕ

-- a slot has the bytes of a page and 64 more
abbrev pub slot_bytes : Geometry → ℕ
slot_bytes g = g.page_bytes + 64

-- the slots of a die
abbrev pub slot_count : Geometry → ℕ
slot_count g = g.blocks * g.slots

-- so many slots of so many bytes each
abbrev pub AreSlots : ℕ → ℕ → List (List ℕ) → Type 0
AreSlots count size slots = (length slots ≡ count) × AllByRecursion (λ slot. length slot ≡ size) slots

-- an image has the slots of its geometry, and 112 bytes of header
pub record IsImage (image : ImageState) : Type 0 where
  pub whole : AreSlots (slot_count image.geometry) (slot_bytes image.geometry) image.slots
  pub headed : length image.header ≡ 112

-- the bytes of a slot that was erased
abbrev pub erased_slot : ℕ → List ℕ
erased_slot size = replicate size 0xff

-- these slots from an index on, and all others as they were
abbrev pub with_slots : ℕ → List (List ℕ) → List (List ℕ) → List (List ℕ)
with_slots first written slots = take first slots ++ written ++ drop (first + length written) slots

abbrev pub slot_at : ℕ → ImageState → List ℕ
slot_at slot image = slice_index_or image.slots slot []

-- the count after one more
abbrev pub one_more : ℕ → ℕ
one_more n = (n + 1) % 2 ^ 64

pub data ImageCall : Type 0 where
  ReadingSlot : (slot : ℕ) → ImageCall
  Programming : (slot : ℕ) (bytes : List ℕ) → ImageCall
  Erasing : (block : ℕ) → ImageCall
  ReadingHeader : ImageCall
  WritingHeader : (bytes : List ℕ) → ImageCall
  Syncing : ImageCall

pub data ImageAnswer : Type 0 where
  Gave : (bytes : List ℕ) → ImageAnswer
  Done : ImageAnswer
  Refused : (fault : ImageFault) → ImageAnswer

-- the fault that a refused call answers
abbrev pub fault_of : ImageCall → ImageFault
fault_of (ReadingSlot slot) = ReadSlot
fault_of (Programming slot bytes) = Program
fault_of (Erasing block) = EraseBlock
fault_of ReadingHeader = ReadHeader
fault_of (WritingHeader bytes) = WriteHeader
fault_of Syncing = Sync

-- the faults are numbered in that order
abbrev pub fault_number : ImageFault → ℕ
fault_number ReadSlot = 1
fault_number Program = 2
fault_number EraseBlock = 3
fault_number ReadHeader = 4
fault_number WriteHeader = 5
fault_number Sync = 6

-- What may be called: a slot or a block that the die has, with as many bytes as a slot or a header has.
abbrev pub IsCallOf : Geometry → ImageCall → Type 0
IsCallOf g (ReadingSlot slot) = slot < slot_count g
IsCallOf g (Programming slot bytes) = (slot < slot_count g) × (length bytes ≡ slot_bytes g)
IsCallOf g (Erasing block) = block < g.blocks
IsCallOf g ReadingHeader = Unit {0}
IsCallOf g (WritingHeader bytes) = length bytes ≡ 112
IsCallOf g Syncing = Unit {0}

-- Which answers a call can have. A read gives as many bytes as were asked for, no other call gives any, and
-- each refuses with its own fault.
abbrev pub IsAnswerTo : Geometry → ImageCall → ImageAnswer → Type 0
IsAnswerTo g (ReadingSlot slot) (Gave bytes) = length bytes ≡ slot_bytes g
IsAnswerTo g (ReadingSlot slot) Done = ⊥
IsAnswerTo g ReadingHeader (Gave bytes) = length bytes ≡ 112
IsAnswerTo g ReadingHeader Done = ⊥
IsAnswerTo g call (Gave bytes) = ⊥
IsAnswerTo g call Done = Unit {0}
IsAnswerTo g call (Refused fault) = fault ≡ fault_of call

-- the image with these slots from an index on
abbrev pub with_written : ℕ → List (List ℕ) → ImageState → ImageState
with_written first written image = record image { slots = with_slots first written image.slots }

-- the image after a call that was accepted
abbrev pub accepted : ImageCall → ImageState → ImageState
accepted (ReadingSlot slot) image = image
accepted (Programming slot bytes) image = with_written slot (bytes ∷ []) image
accepted (Erasing block) image =
    with_written (block * image.geometry.slots) (replicate image.geometry.slots (erased_slot (slot_bytes image.geometry))) image
accepted ReadingHeader image = image
accepted (WritingHeader bytes) image = record image { header = bytes }
accepted Syncing image = record image { syncs = one_more image.syncs }

-- the image with one more fault
abbrev pub faulted : ImageState → ImageState
faulted image = record image { faults = one_more image.faults }

-- Slots from an index on may have been left with any bytes.
abbrev pub LeavesSlots : ℕ → ℕ → ImageState → ImageState → Type 0
LeavesSlots first count before after =
    (left : List (List ℕ)) × AreSlots count (slot_bytes before.geometry) left × (after ≡ faulted (with_written first left before))

-- What a refused call leaves: what it was writing may have any bytes, and all else is as it was.
abbrev pub IsLeft : ImageCall → ImageState → ImageState → Type 0
IsLeft (ReadingSlot slot) before after = after ≡ faulted before
IsLeft (Programming slot bytes) before after = LeavesSlots slot 1 before after
IsLeft (Erasing block) before after = LeavesSlots (block * before.geometry.slots) before.geometry.slots before after
IsLeft ReadingHeader before after = after ≡ faulted before
IsLeft (WritingHeader bytes) before after =
    (left : List ℕ) × (length left ≡ 112) × (after ≡ faulted (record before { header = left }))
IsLeft Syncing before after = after ≡ faulted before

-- the image after a call with this answer
abbrev pub LeadsTo : ImageCall → ImageAnswer → ImageState → ImageState → Type 0
LeadsTo call (Gave bytes) before after = after ≡ accepted call before
LeadsTo call Done before after = after ≡ accepted call before
LeadsTo call (Refused fault) before after = IsLeft call before after

-- a read gave what stands there
abbrev pub IsTrueAnswer : ImageCall → ImageAnswer → ImageState → Type 0
IsTrueAnswer (ReadingSlot slot) (Gave bytes) image = bytes ≡ slot_at slot image
IsTrueAnswer ReadingHeader (Gave bytes) image = bytes ≡ image.header
IsTrueAnswer call answer image = Unit {0}

-- An image may cease to be honest at a read, and at no other call. It never becomes honest.
abbrev pub StaysHonest : ImageCall → Bool → Bool → Type 0
StaysHonest (ReadingSlot slot) before after = IsTrue after → IsTrue before
StaysHonest ReadingHeader before after = IsTrue after → IsTrue before
StaysHonest call before after = after ≡ before

-- One call of an image with its answer, as it is seen.
pub record ImageMeets (before : ImageState) (was_honest : Bool) (call : ImageCall) (answer : ImageAnswer)
    (after : ImageState) (is_honest : Bool) : Type 0 where
  pub allowed : IsCallOf before.geometry call
  pub answers : IsAnswerTo before.geometry call answer
  pub leads : LeadsTo call answer before after
  pub told : IsTrue is_honest → IsTrueAnswer call answer before
  pub honest : StaysHonest call was_honest is_honest

-- how many syncs were accepted after a call with this answer
abbrev pub syncs_after : ImageCall → ImageAnswer → ℕ → ℕ
syncs_after Syncing Done n = one_more n
syncs_after call answer n = n

-- how many calls were refused after one with this answer
abbrev pub faults_after : ImageAnswer → ℕ → ℕ
faults_after (Gave bytes) n = n
faults_after Done n = n
faults_after (Refused fault) n = one_more n
