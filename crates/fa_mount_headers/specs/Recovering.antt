-- Why the headers of images keep an array from being recovered: one that was not closed, whose dies have to be all there.
use Rattle.std.specs.Prelude.{◌≡◌, ℕ, Bool, true, not, ◌&&◌, ◌==◌, Option, option_map, option_and_then, List, [], ◌∷◌, find}
use Rattle.std.specs.List.{list_any, range_with_len}
use Rattle.fa_mount_headers.specs.Judged.{first_seen}
use Rattle.fa_mount_headers.specs.Rules.{first_of, greatest_epoch, is_in, mask_in, refused_die, seen_from, seen_refusal}
use Rattle.fa_mount_headers.specs.declared.fault.MountFault.TheVariants.{Unclean}
use Rattle.fa_mount_headers.specs.declared.fault.MountRefused.{MountRefused}
use Rattle.fa_mount_headers.specs.declared.found.Found.{Found}
use Rattle.fa_mount_headers.specs.declared.seen.Seen.{Seen}

-- the die is in the mask, and no image has a header of it
abbrev pub is_missed_die : ℕ → List Seen → ℕ → Bool
is_missed_die mask seen die = is_in mask die && not (list_any (λ x. x.header.die.0 == die) seen)

-- the first such die, of so many dies
abbrev pub missed_die : ℕ → ℕ → List Seen → Option ℕ
missed_die dies mask seen = find (is_missed_die mask seen) (range_with_len 0 dies)

-- each die of the mask has an image with a header
abbrev pub missed_of : ℕ → ℕ → List Seen → Option MountRefused
missed_of dies mask seen = option_map (refused_die Unclean) (missed_die dies mask seen)

-- so has each die of the mask of the greatest epoch, of images of one array
abbrev pub missed : List Seen → Option MountRefused
missed seen = option_and_then (λ x. missed_of x.header.geometry.dies (mask_in (greatest_epoch seen) seen) seen) (first_seen seen)

-- why images that have a header are not those of an array that can be recovered: they are refused even where an unclean array may
-- be mounted, or a die of the mask is missed
abbrev pub whole_refusal : ℕ → List Seen → Option MountRefused
whole_refusal copies seen = first_of (seen_refusal copies true seen ∷ missed seen ∷ [])

-- Why an array is not recovered from images with these headers, if it is not. Images that have no header are left aside.
abbrev pub recovery_refusal : ℕ → List Found → Option MountRefused
recovery_refusal copies founds = whole_refusal copies (seen_from 0 founds)
