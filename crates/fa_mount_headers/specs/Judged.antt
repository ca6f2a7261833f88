-- The array that images are, by their headers.
use Rattle.std.specs.Prelude.{◌≡◌, ℕ, ◌==◌, Option, Some, None, is_none, option_map, List, [], ◌∷◌, map, find, if◌then◌else◌}
use Rattle.std.specs.List.{range_with_len, slice_get}
use Rattle.fa_types.specs.declared.geometry.Geometry.{Geometry}
use Rattle.fa_tag.specs.declared.header.Header.{Header}
use Rattle.fa_mount_headers.specs.declared.found.Found.{Found}
use Rattle.fa_mount_headers.specs.declared.found.HeaderFound.TheVariants.{Good}
use Rattle.fa_mount_headers.specs.declared.judging.Judged.{Judged}
use Rattle.fa_mount_headers.specs.declared.judging.Standing.{Standing}
use Rattle.fa_mount_headers.specs.declared.judging.Standing.TheVariants.{Missing, Live, Spare, Out}
use Rattle.fa_mount_headers.specs.declared.seen.Seen.{Seen}
use Rattle.fa_mount_headers.specs.Rules.{greatest_epoch, mask_in, is_in, unclean_die}

-- How a die stands, by its image. A spare is never live. A die that is neither in the mask nor a spare is out.
abbrev pub standing_in : ℕ → Option Seen → Standing
standing_in mask None = Missing
standing_in mask (Some x) = if x.header.spare then Spare x.index else if is_in mask x.header.die.0 then Live x.index else Out x.index

abbrev pub standing_of : ℕ → List Seen → ℕ → Standing
standing_of mask seen die = standing_in mask (find (λ x. x.header.die.0 == die) seen)

-- how each of so many dies stands
abbrev pub standings_of : ℕ → List Seen → ℕ → List Standing
standings_of mask seen dies = map (standing_of mask seen) (range_with_len 0 dies)

-- the first image that has a header
abbrev pub first_seen : List Seen → Option Seen
first_seen [] = None
first_seen (x ∷ others) = Some x

-- What the headers of images say of their array. They are all of one array and one geometry, so what the first says of
-- these is what each says.
pub record IsJudged {A : Type 0} (seen : List Seen) (judged : Judged A) : Type 0 where
  pub geometry : option_map (λ x. x.header.geometry) (first_seen seen) ≡ Some judged.geometry
  pub array : option_map (λ x. x.header.array) (first_seen seen) ≡ Some judged.array
  pub epoch : judged.epoch ≡ greatest_epoch seen
  pub mask : judged.mask ≡ mask_in judged.epoch seen
  pub clean : judged.clean ≡ is_none (unclean_die judged.geometry.dies judged.epoch judged.mask seen)
  pub dies : judged.dies.items ≡ standings_of judged.mask seen judged.geometry.dies

-- The image at an index has a header of this die, of the array with this number and this geometry, for which the image
-- was made.
abbrev pub IsImageOf : List Found → Geometry → List ℕ → ℕ → ℕ → Type 0
IsImageOf founds geometry array die index =
    (header : Header) × (slice_get founds index ≡ Some (record { geometry = geometry; header = Good header }))
    × (header.die.0 ≡ die) × (header.geometry ≡ geometry) × (header.array ≡ array)

-- a die that does not lack an image has that one
abbrev pub HasImage : List Found → Geometry → List ℕ → ℕ → Standing → Type 0
HasImage founds geometry array die Missing = Unit {0}
HasImage founds geometry array die (Live index) = IsImageOf founds geometry array die index
HasImage founds geometry array die (Spare index) = IsImageOf founds geometry array die index
HasImage founds geometry array die (Out index) = IsImageOf founds geometry array die index

-- so has each die
abbrev pub HaveImages : {A : Type 0} → List Found → Judged A → Type 0
HaveImages founds judged = (die : ℕ) (standing : Standing) → slice_get judged.dies.items die ≡ Some standing
    → HasImage founds judged.geometry judged.array die standing
