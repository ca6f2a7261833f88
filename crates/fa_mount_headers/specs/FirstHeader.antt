-- The headers with which an array begins.
use Rattle.std.specs.Prelude.{ℕ, ◌-◌, ◌^◌, true, false, if◌then◌else◌, nat_lt, List}
use Rattle.fa_types.specs.declared.geometry.Geometry.{Geometry}
use Rattle.fa_tag.specs.declared.header.Header.{Header}
use Rattle.fa_mount_headers.specs.declared.first_header.HeaderFormat.{HeaderFormat}
use Rattle.fa_mount_headers.specs.declared.first_header.HeaderFormat.TheVariants.{One, Two}

-- how many dies are in use, the first ones; the others are spares
abbrev pub in_use : Geometry → ℕ
in_use geometry = geometry.dies - geometry.spares

-- the mask of the first so many dies
abbrev pub mask_below : ℕ → ℕ
mask_below dies = 2 ^ dies - 1

-- a die in use, clean in epoch 1, in which all dies in use are live
abbrev pub live_header : Geometry → List ℕ → ℕ → Header
live_header geometry array die = record {
  die = record { 0 = die };
  geometry = geometry;
  clean = true;
  spare = false;
  epoch = 1;
  mask = mask_below (in_use geometry);
  array = array;
}

-- a spare, clean
abbrev pub spare_header : Geometry → List ℕ → ℕ → Header
spare_header geometry array die = record {
  die = record { 0 = die };
  geometry = geometry;
  clean = true;
  spare = true;
  epoch = 0;
  mask = 0;
  array = array;
}

-- the header of a die of a new array
abbrev pub first_header : Geometry → List ℕ → ℕ → Header
first_header geometry array die =
    if nat_lt die (in_use geometry) then live_header geometry array die else spare_header geometry array die

-- the number of a format
abbrev pub format_number : HeaderFormat → ℕ
format_number One = 1
format_number Two = 2
