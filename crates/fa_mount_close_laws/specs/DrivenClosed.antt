-- An array that is closed as it is at the end of a drive.
use Rattle.std.specs.Prelude.{◌≡◌, ℕ, ◌+◌, ◌^◌, ◌≤◌, List, Ok, Some, length, true}
use Rattle.std.specs.FinMap.{len}
use Rattle.fa_mount_close_laws.specs.Closed.{IsImageAt}
use Rattle.fa_mount_headers.specs.declared.judging.Standing.{Standing}
use Rattle.fa_image.specs.Image.{ImageAnswer, ImageCall}
use Rattle.fa_machine.specs.State.{is_live}
use Rattle.fa_mount.specs.Closing.{Closes}
use Rattle.fa_mount.specs.Standings.{HaveImages}
use Rattle.fa_mount_close_laws.specs.Drives.{Driven}

-- The array was closed over these images, and this mask was answered. The images of the live dies are those of the drive. Its number has
-- 16 bytes, and its epoch leaves room for each live die to go out.
pub record ClosesDriven {I : Type 0} (made : I → ImageCall → ImageAnswer → I → Type 0) (last : Driven I) (array : List ℕ)
    (dies : List Standing) (before after : List I) (mask : ℕ) : Type 0 where
  pub closes : Closes made last.core array dies before after (Ok mask)
  pub have : HaveImages dies (is_live last.core.page_map) (length before)
  pub images : (die : ℕ) (image : I) → is_live last.core.page_map die ≡ true → IsImageAt dies before die image
      → last.images die ≡ Some image
  pub number : length array ≡ 16
  pub first : 1 ≤ last.core.epoch
  pub room : last.core.epoch + len last.core.page_map.live ≤ 2 ^ 62
