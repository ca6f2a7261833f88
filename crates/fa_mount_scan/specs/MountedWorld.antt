-- The world over an array that was mounted, by the bytes that stand in its slots.
use Rattle.std.specs.Prelude.{◌≡◌, ℕ, ◌*◌, ◌^◌, ◌<◌, ◌≤◌, Bool, true, false, ◌||◌, List, [], length, slice_get}
use Rattle.std.specs.Prelude.{Option, Some, None, option_map, option_and_then, unwrap_or}
use Rattle.std.specs.Option.{option_map_or}
use Rattle.std.specs.FinMap.{get, contains_key}
use Rattle.fa_types.specs.Geometry.{AreCopies}
use Rattle.fa_types.specs.Plain.{HasPages}
use Rattle.fa_types.specs.declared.geometry.Geometry.{Geometry}
use Rattle.fa_image.specs.Image.{ImageState, slot_at}
use Rattle.fa_tag.specs.SlotGrammar.{IsErased, IsSlot}
use Rattle.fa_machine.specs.declared.places.Used.TheVariants.{Held}
use Rattle.fa_machine.specs.declared.places.Version.{Version}
use Rattle.fa_machine.specs.Beginning.{mounted}
use Rattle.fa_machine.specs.Reading.{zeros}
use Rattle.fa_machine.specs.State.{MapState, is_live, used_at}
use Rattle.fa_machine.specs.World.{World, plain_page}
use Rattle.fa_mount_scan.specs.declared.slots.content.SlotContent.{SlotContent}
use Rattle.fa_mount_scan.specs.Content.{AreContents, Contents, IsMountedContent, found_at, slots_on}
use Rattle.fa_mount_scan.specs.ContentCells.{IsCellOf, tag_of}
use Rattle.fa_mount_scan.specs.ContentReading.{IsContentOf, image_read}
use Rattle.fa_mount_headers.specs.declared.judging.Standing.{Standing}
use Rattle.fa_mount_scan.specs.Reported.{is_spare as stands_as_spare}

-- the bytes that stand in slots, by die and slot
abbrev pub SlotBytes : Type 0
SlotBytes = ℕ → ℕ → List ℕ

-- the bytes in the slots of a die are those of the image that is read for it
abbrev pub bytes_of : List ImageState → List Standing → SlotBytes
bytes_of images dies die slot =
    unwrap_or (option_map (slot_at slot) (option_and_then (slice_get images) (option_and_then image_read (slice_get dies die)))) []

-- what was found in slots is what their bytes are to an array of so many pages
abbrev pub AreFoundIn : SlotBytes → ℕ → Contents → Type 0
AreFoundIn bytes pages contents =
    (die slot : ℕ) (content : SlotContent) → found_at contents die slot ≡ Some content
    → IsContentOf (bytes die slot) pages die slot content

-- a slot that the map says holds a page has it with this payload
pub record HoldsPayload (bytes : SlotBytes) (m : MapState) (page : ℕ) (version : Version) (die slot : ℕ) (payload : List ℕ) : Type 0 where
  pub held : used_at m die slot ≡ Some (Held (record { 0 = page }) version)
  pub sealed : IsSlot (tag_of page version die slot) payload (bytes die slot)

-- the current copies of one page have one payload
abbrev pub CopiesAgree : SlotBytes → MapState → Type 0
CopiesAgree bytes m = (page : ℕ) (version other : Version) (die slot d s : ℕ) (one two : List ℕ)
    → HoldsPayload bytes m page version die slot one → HoldsPayload bytes m page other d s two → one ≡ two

-- The plain array begins with the payload of a current copy of each page that was written, and zeros for the others.
abbrev pub IsFirstPlain : SlotBytes → MapState → ℕ → List ℕ → Option Version → Type 0
IsFirstPlain bytes m page plain None = plain ≡ zeros m
IsFirstPlain bytes m page plain (Some version) = (die slot : ℕ) × HoldsPayload bytes m page version die slot plain

-- whether a die stands as a spare
abbrev pub is_spare_of : List Standing → ℕ → Bool
is_spare_of dies die = option_map_or stands_as_spare (slice_get dies die) false

-- The map is the mounted content of what stands in the slots. Of a spare nothing is mounted, and it is erased.
pub record HoldMap (bytes : SlotBytes) (is_spare : ℕ → Bool) (geometry : Geometry) (m : MapState) : Type 0 where
  pub contents : Contents
  pub are : AreContents geometry contents
  pub content : IsMountedContent geometry contents m
  pub found : AreFoundIn bytes geometry.pages contents
  pub spares : (die : ℕ) → is_spare die ≡ true → (die < geometry.dies) × (slots_on contents die ≡ None)
  pub erased : (die slot : ℕ) → is_spare die ≡ true → slot < geometry.blocks * geometry.slots → IsErased (bytes die slot)

-- A world with nothing under way, over a map of what stands in slots.
pub record IsMountedWorld (bytes : SlotBytes) (is_spare : ℕ → Bool) (w : World) : Type 0 where
  pub fresh : w.core ≡ mounted w.core
  pub copies : let g = w.core.page_map.geometry in AreCopies w.core.copies g.dies g.spares g.blocks g.slots g.pages
  pub holds : HoldMap bytes is_spare w.core.page_map.geometry w.core.page_map
  pub spares : (die : ℕ) → contains_key w.core.spares die ≡ true → is_spare die ≡ true
  -- the history begins with the numbers of the pages, and no page's number is above the last
  pub based : (page : ℕ) → get w.core.base.numbers page ≡ option_map (λ version. version.seq.0) (get w.core.page_map.versions page)
  pub last : w.core.last < 2 ^ 62
  pub given : (page : ℕ) (version : Version) → get w.core.page_map.versions page ≡ Some version → version.seq.0 ≤ w.core.last
  -- what is seen of the images is what stands there
  pub cells : (die slot : ℕ) → (is_live w.core.page_map die || contains_key w.core.spares die) ≡ true
      → slot < w.core.page_map.geometry.blocks * w.core.page_map.geometry.slots → IsCellOf (bytes die slot) ((w.images die).seen slot)
  pub agree : CopiesAgree bytes w.core.page_map
  pub plain : (page : ℕ) → page < w.core.page_map.geometry.pages
      → IsFirstPlain bytes w.core.page_map page (plain_page w page) (get w.core.page_map.versions page)
  pub payloads : (page : ℕ) (version : Version) → get w.core.page_map.versions page ≡ Some version
      → w.payloads page version.seq.0 ≡ plain_page w page
  pub pages : (length w.plain ≡ w.core.page_map.geometry.pages) × HasPages w.core.page_map.geometry.page_bytes w.plain
  pub idle : (die : ℕ) → w.works die ≡ None
  pub told : w.told ≡ []
