-- An array that was closed, and the images of the dies that are left.
use Rattle.std.specs.Prelude.{◌≡◌, ℕ, ◌+◌, ◌*◌, ◌^◌, ◌<◌, ◌≤◌, true, List, Some, Ok, length, slice_get}
use Rattle.std.specs.FinMap.{len}
use Rattle.fa_mount_headers.specs.Rules.{is_in}
use Rattle.fa_mount_headers.specs.declared.judging.Standing.{Standing}
use Rattle.fa_image.specs.Image.{ImageAnswer, ImageCall, ImageState, slot_at}
use Rattle.fa_machine.specs.State.{is_live}
use Rattle.fa_machine.specs.World.{World}
use Rattle.fa_mount.specs.Closing.{Closes}
use Rattle.fa_mount.specs.Standings.{HaveImages, place_on}
use Rattle.fa_mount_scan.specs.ContentCells.{IsCellOf}

module _ {I : Type 0} (view : I → ImageState) where
  -- The image of each live die is made for its array's geometry, and the bytes in its slots are what the world sees there.
  abbrev pub AreImagesOf : World → List Standing → List I → Type 0
  AreImagesOf w dies images = (die index : ℕ) (image : I) → is_live w.core.page_map die ≡ true → place_on dies die ≡ Some index
      → slice_get images index ≡ Some image → ((view image).geometry ≡ w.core.page_map.geometry)
      × ((slot : ℕ) → slot < w.core.page_map.geometry.blocks * w.core.page_map.geometry.slots
      → IsCellOf (slot_at slot (view image)) ((w.images die).seen slot))

  -- An array of this world was closed over these images, and this mask was answered. Its number has 16 bytes, and its epoch leaves
  -- room for each live die to go out.
  pub record WasClosed (made : I → ImageCall → ImageAnswer → I → Type 0) (w : World) (array : List ℕ) (dies : List Standing)
      (before after : List I) (mask : ℕ) : Type 0 where
    pub closes : Closes made w.core array dies before after (Ok mask)
    pub have : HaveImages dies (is_live w.core.page_map) (length before)
    pub images : AreImagesOf w dies before
    pub number : length array ≡ 16
    pub first : 1 ≤ w.core.epoch
    pub room : w.core.epoch + len w.core.page_map.live ≤ 2 ^ 62

-- the image of a die stands at a place of the list
abbrev pub IsImageAt : {I : Type 0} → List Standing → List I → ℕ → I → Type 0
IsImageAt dies images die image = (index : ℕ) × (place_on dies die ≡ Some index) × (slice_get images index ≡ Some image)

-- These are the images of the dies of a mask, in any order, and none comes twice.
pub record AreOfMask {I : Type 0} (dies : List Standing) (mask : ℕ) (images these : List I) : Type 0 where
  pub each : (i : ℕ) (image : I) → slice_get these i ≡ Some image → (die : ℕ) × (is_in mask die ≡ true) × IsImageAt dies images die image
  pub all : (die : ℕ) → is_in mask die ≡ true → (i : ℕ) × (image : I) × (slice_get these i ≡ Some image) × IsImageAt dies images die image
  pub once : (i j : ℕ) (image : I) → slice_get these i ≡ Some image → slice_get these j ≡ Some image → i ≡ j
