-- How the slots of a die are read: each once, from slot 0 on, up to the end or to the first read that is refused.
use Rattle.std.specs.Prelude.{◌≡◌, ℕ, ◌+◌, suc, List, [], ◌∷◌, length, slice_get, Option, Some, None, Result, Ok, Err}
use Rattle.fa_types.specs.declared.geometry.Geometry.{Geometry}
use Rattle.fa_image.specs.declared.fault.ImageFault.{ImageFault}
use Rattle.fa_image.specs.Image.{ImageState, slot_count, ImageCall, ReadingSlot, ImageAnswer, Gave, Refused}
use Rattle.fa_tag.specs.declared.tag.Opened.{Opened}
use Rattle.fa_tag.specs.SlotGrammar.{IsOpened}
use Rattle.fa_mount_scan.specs.declared.slots.content.SlotContent.{SlotContent}
use Rattle.fa_mount_headers.specs.declared.judging.Standing.{Standing}
use Rattle.fa_mount_headers.specs.declared.judging.Standing.TheVariants.{Missing, Live, Spare, Out}
use Rattle.fa_mount_scan.specs.Content.{content_of}
use Rattle.fa_mount_headers.specs.Found.{IsOnlyRead}

-- the bytes of a slot are this content to an array of so many pages
pub record IsContentOf (bytes : List ℕ) (pages die slot : ℕ) (content : SlotContent) : Type 0 where
  pub opened : Opened
  pub opens : IsOpened bytes opened
  pub is : content ≡ content_of pages die slot opened

module _ {I : Type 0} (made : I → ImageCall → ImageAnswer → I → Type 0) (pages die : ℕ) where
  -- a slot was read, and what it gave has this content
  pub record ReadsSlot (slot : ℕ) (content : SlotContent) (before after : I) : Type 0 where
    pub bytes : List ℕ
    pub gave : made before (ReadingSlot slot) (Gave bytes) after
    pub holds : IsContentOf bytes pages die slot content

  -- so were the slots from one on, in their order
  abbrev pub ReadsSlots : ℕ → List SlotContent → I → I → Type 0
  ReadsSlots slot [] before after = after ≡ before
  ReadsSlots slot (content ∷ contents) before after =
      (middle : I) × ReadsSlot slot content before middle × ReadsSlots (suc slot) contents middle after

  -- those before some slot were read, whose read was refused
  pub record StopsReading (fault : ImageFault) (before after : I) : Type 0 where
    pub contents : List SlotContent
    pub middle : I
    pub read : ReadsSlots 0 contents before middle
    pub refused : made middle (ReadingSlot (length contents)) (Refused fault) after

  -- the same from a slot on
  pub record StopsAfter (first : ℕ) (fault : ImageFault) (before after : I) : Type 0 where
    pub contents : List SlotContent
    pub middle : I
    pub read : ReadsSlots first contents before middle
    pub refused : made middle (ReadingSlot (first + length contents)) (Refused fault) after

-- A die of an array was read: all of its slots, or as far as it could be.
abbrev pub ReadsDie : {I : Type 0} → (I → ImageCall → ImageAnswer → I → Type 0) → Geometry → ℕ → Result (List SlotContent) ImageFault
    → I → I → Type 0
ReadsDie made geometry die (Ok contents) before after =
    (length contents ≡ slot_count geometry) × ReadsSlots made geometry.pages die 0 contents before after
ReadsDie made geometry die (Err fault) before after = StopsReading made geometry.pages die fault before after

-- which image is read for a die: that of a die in the mask, or with the mark of a spare
abbrev pub image_read : Standing → Option ℕ
image_read Missing = None
image_read (Live index) = Some index
image_read (Spare index) = Some index
image_read (Out index) = None

-- there is an image at the index, made for this geometry
abbrev pub HasImageOf : {I : Type 0} → (I → ImageState) → Geometry → List I → ℕ → Type 0
HasImageOf {I} view geometry images index = (image : I) × (slice_get images index ≡ Some image) × ((view image).geometry ≡ geometry)

-- no image is to be read for two dies
abbrev pub AreApart : List Standing → Type 0
AreApart standings =
    (die other : ℕ) (x y : Standing) (index : ℕ) → slice_get standings die ≡ Some x → slice_get standings other ≡ Some y
    → image_read x ≡ Some index → image_read y ≡ Some index → die ≡ other

-- the image of each die that is to be read is one of these, made for this geometry, and that of no other die
pub record AreReadable {I : Type 0} (view : I → ImageState) (geometry : Geometry) (standings : List Standing)
    (images : List I) : Type 0 where
  pub dies : length standings ≡ geometry.dies
  pub image : (die : ℕ) (standing : Standing) (index : ℕ) → slice_get standings die ≡ Some standing → image_read standing ≡ Some index
      → HasImageOf view geometry images index
  pub apart : AreApart standings

module _ {I : Type 0} (made : I → ImageCall → ImageAnswer → I → Type 0) (geometry : Geometry) (images after : List I) where
  -- the image at an index was read for a die
  pub record ReadsAt (die index : ℕ) (outcome : Result (List SlotContent) ImageFault) : Type 0 where
    pub old : I
    pub new : I
    pub was : slice_get images index ≡ Some old
    pub is : slice_get after index ≡ Some new
    pub reads : ReadsDie made geometry die outcome old new

  -- what came of a die: an image that is not to be read was not
  abbrev pub HasOutcome : ℕ → Option ℕ → Option (Result (List SlotContent) ImageFault) → Type 0
  HasOutcome die None None = Unit {0}
  HasOutcome die (Some index) (Some outcome) = ReadsAt die index outcome
  HasOutcome die image outcome = ⊥

  -- what came of each die
  abbrev pub AreOutcomes : List Standing → List (Option (Result (List SlotContent) ImageFault)) → Type 0
  AreOutcomes standings outcomes =
      (die : ℕ) (standing : Standing) (outcome : Option (Result (List SlotContent) ImageFault)) → slice_get standings die ≡ Some standing
      → slice_get outcomes die ≡ Some outcome → HasOutcome die (image_read standing) outcome

-- each image of a list was read at most
pub record EachOnlyRead {I : Type 0} (view : I → ImageState) (images after : List I) : Type 0 where
  pub as_many : length after ≡ length images
  pub each : (index : ℕ) (image : I) → slice_get images index ≡ Some image
      → (new : I) × (slice_get after index ≡ Some new) × IsOnlyRead (view image) (view new)
