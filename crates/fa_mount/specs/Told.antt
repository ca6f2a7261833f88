-- What the headers of the dies that are left tell.
use Rattle.std.specs.Prelude.{◌≡◌, ℕ, ◌^◌, ◌<◌, ◌≤◌, Bool, length}
use Rattle.fa_image.specs.Image.{ImageCall}
use Rattle.fa_mount.specs.Closing.{header_in, writing_in}
use Rattle.fa_mount.specs.declared.telling.Told.{Told}
use Rattle.fa_tag.specs.declared.header.Header.{Header}

-- the header of a die
abbrev pub header_of : Told → Bool → ℕ → Header
header_of told = header_in told.geometry told.array told.epoch told.mask

-- the call that writes it
abbrev pub writing : Told → Bool → ℕ → ImageCall
writing told = writing_in told.geometry told.array told.epoch told.mask

-- The epoch is one that a header may have, the dies are of the array, and the number of the array is one.
pub record IsTold (told : Told) : Type 0 where
  pub first : 1 ≤ told.epoch
  pub most : told.epoch ≤ 2 ^ 62
  pub inside : told.mask < 2 ^ told.geometry.dies
  pub number : length told.array ≡ 16
