-- The images of a new array, as they are found and judged.
use Rattle.std.specs.Prelude.{◌≡◌, ℕ, true, List, map, nat_lt, if◌then◌else◌}
use Rattle.std.specs.List.{range_with_len}
use Rattle.fa_types.specs.declared.geometry.Geometry.{Geometry}
use Rattle.fa_mount_headers.specs.declared.found.Found.{Found}
use Rattle.fa_mount_headers.specs.declared.found.HeaderFound.TheVariants.{Good}
use Rattle.fa_mount_headers.specs.declared.judging.Judged.{Judged}
use Rattle.fa_mount_headers.specs.declared.judging.Standing.{Standing}
use Rattle.fa_mount_headers.specs.declared.judging.Standing.TheVariants.{Live, Spare}
use Rattle.fa_mount_headers.specs.FirstHeader.{in_use, mask_below, first_header}

-- die by die, the headers with which an array begins
abbrev pub new_found : Geometry → List ℕ → ℕ → Found
new_found geometry array die = record { geometry = geometry; header = Good (first_header geometry array die) }

abbrev pub new_founds : Geometry → List ℕ → List Found
new_founds geometry array = map (new_found geometry array) (range_with_len 0 geometry.dies)

-- each die in use is live, and the others are spares
abbrev pub new_standing : Geometry → ℕ → Standing
new_standing geometry die = if nat_lt die (in_use geometry) then Live die else Spare die

-- a new array is clean, in epoch 1
pub record IsNew {A : Type 0} (geometry : Geometry) (array : List ℕ) (judged : Judged A) : Type 0 where
  pub of_geometry : judged.geometry ≡ geometry
  pub of_array : judged.array ≡ array
  pub first_epoch : judged.epoch ≡ 1
  pub all_in_use : judged.mask ≡ mask_below (in_use geometry)
  pub closed : judged.clean ≡ true
  pub standing : judged.dies.items ≡ map (new_standing geometry) (range_with_len 0 geometry.dies)
