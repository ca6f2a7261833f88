-- The images of dies that are read side by side: what stands ready for each image, and what came of it.
use Rattle.std.specs.Prelude.{◌≡◌, ℕ, ◌*◌, ◌<◌, List, [], ◌∷◌, length, slice_get, slice_set, Option, Some, None, Result, Ok, Err}
use Rattle.fa_types.specs.declared.geometry.Geometry.{Geometry}
use Rattle.fa_image.specs.declared.fault.ImageFault.{ImageFault}
use Rattle.fa_image.specs.Image.{ImageState, slot_bytes, slot_count, ImageCall, ImageAnswer}
use Rattle.fa_mount_scan.specs.declared.slots.content.SlotContent.{SlotContent}
use Rattle.fa_mount_headers.specs.declared.judging.Standing.{Standing}
use Rattle.fa_mount_scan.specs.declared.slots.readings.Reading.{Reading}
use Rattle.fa_mount_scan.specs.ContentReading.{ReadsDie, image_read}
use Rattle.fa_mount_scan.specs.Scanned.{Outcome}

-- what came of reading a die's image
abbrev pub outcome_of : {A : Type 0} → Reading A → Result (List SlotContent) ImageFault
outcome_of reading = told reading.fault
  where
    told : Option ImageFault → Result (List SlotContent) ImageFault
    told None = Ok reading.contents.items
    told (Some fault) = Err fault

-- there is room for the bytes of eight slots and for what is found in each slot
abbrev pub IsRoomy : {A : Type 0} → Geometry → Reading A → Type 0
IsRoomy geometry reading = (length reading.buffer.items ≡ 8 * slot_bytes geometry) × (length reading.contents.items ≡ slot_count geometry)

module _ {I A : Type 0} (view : I → ImageState) (geometry : Geometry) where
  -- an image that is to be read is made for this geometry, and there is room
  abbrev pub IsReady : I → Option (Reading A) → Type 0
  IsReady image None = Unit {0}
  IsReady image (Some reading) = ((view image).geometry ≡ geometry) × IsRoomy geometry reading

  -- the same of each image of a list
  abbrev pub AreReady : List I → List (Option (Reading A)) → Type 0
  AreReady [] [] = Unit {0}
  AreReady (image ∷ images) (reading ∷ readings) = IsReady image reading × AreReady images readings
  AreReady images readings = ⊥

module _ {I A : Type 0} (made : I → ImageCall → ImageAnswer → I → Type 0) (geometry : Geometry) where
  -- an image was read for its die, and this came of it; one that is not to be read was not called
  abbrev pub IsImageRead : I → Option (Reading A) → I → Option (Reading A) → Type 0
  IsImageRead before None after None = after ≡ before
  IsImageRead before (Some reading) after (Some read) =
      (read.die ≡ reading.die) × ReadsDie made geometry reading.die.0 (outcome_of read) before after
  IsImageRead before reading after read = ⊥

  -- the same of each image of a list
  abbrev pub AreImagesRead : List I → List (Option (Reading A)) → List I → List (Option (Reading A)) → Type 0
  AreImagesRead [] [] [] [] = Unit {0}
  AreImagesRead (before ∷ befores) (reading ∷ readings) (after ∷ afters) (read ∷ reads) =
      IsImageRead before reading after read × AreImagesRead befores readings afters reads
  AreImagesRead befores readings afters reads = ⊥

-- what stands ready for the dies below a number, by the places of their images in a list of so many
pub record AreReadingsOf {A : Type 0} (geometry : Geometry) (standings : List Standing) (dies images : ℕ)
    (readings : List (Option (Reading A))) : Type 0 where
  pub as_many : length readings ≡ images
  pub each : (die index : ℕ) (standing : Standing) → die < dies → slice_get standings die ≡ Some standing
      → image_read standing ≡ Some index
      → (reading : Reading A) × (slice_get readings index ≡ Some (Some reading)) × (reading.die.0 ≡ die)
  pub only : (index : ℕ) (reading : Reading A) → slice_get readings index ≡ Some (Some reading)
      → (die : ℕ) × (standing : Standing) × (slice_get standings die ≡ Some standing) × (image_read standing ≡ Some index)
      × IsRoomy geometry reading

-- a reading for a die was put at the place of its image, where one is to be read
abbrev pub AddsReading : {A : Type 0} → Geometry → ℕ → Option ℕ
    → List (Option (Reading A)) → List (Option (Reading A)) → Type 0
AddsReading geometry die None before after = after ≡ before
AddsReading {A} geometry die (Some index) before after =
    (reading : Reading A) × (after ≡ slice_set before index (Some reading)) × (reading.die.0 ≡ die) × IsRoomy geometry reading

-- what came of a die, by the reading of its image
abbrev pub outcome_from : {A : Type 0} → List (Option (Reading A)) → Option ℕ → Outcome
outcome_from readings None = None
outcome_from {A = A} readings (Some index) = told (slice_get readings index)
  where
    told : Option (Option (Reading A)) → Outcome
    told (Some (Some reading)) = Some (outcome_of reading)
    told found = None

-- the same of each die
abbrev pub AreFrom : {A : Type 0} → List (Option (Reading A)) → List Standing → List Outcome → Type 0
AreFrom readings standings outcomes =
    (die : ℕ) (standing : Standing) (outcome : Outcome) → slice_get standings die ≡ Some standing
    → slice_get outcomes die ≡ Some outcome → outcome ≡ outcome_from readings (image_read standing)
