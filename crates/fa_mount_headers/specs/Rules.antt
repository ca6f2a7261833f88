-- The rules that the headers of an array keep. Each is told by who breaks it first, if an image or a die does.
use Rattle.std.specs.Prelude.{ℕ, suc, ◌-◌, ◌*◌, max, Bool, true, false, not, ◌&&◌, ◌==◌, nat_lt, nat_le, if◌then◌else◌}
use Rattle.std.specs.Prelude.{Option, Some, None, option_map, unwrap_or, List, [], ◌∷◌, ◌++◌, fold, find, position}
use Rattle.std.specs.List.{list_any, range_with_len}
use Rattle.std.specs.Str.{bytes_eq}
use Rattle.std.specs.Int.{bit_at}
use Rattle.fa_types.specs.declared.geometry.Geometry.{Geometry}
use Rattle.fa_mount_headers.specs.declared.fault.MountFault.{MountFault}
use Rattle.fa_mount_headers.specs.declared.fault.MountFault.TheVariants.{HeaderBad, ArraysDiffer, GeometryDiffers, DieTwice}
use Rattle.fa_mount_headers.specs.declared.fault.MountFault.TheVariants.{Unclean, NoDieLive, ImageFault}
use Rattle.fa_mount_headers.specs.declared.fault.MountRefused.{MountRefused}
use Rattle.fa_mount_headers.specs.declared.found.Found.{Found}
use Rattle.fa_mount_headers.specs.declared.found.HeaderFound.{HeaderFound}
use Rattle.fa_mount_headers.specs.declared.found.HeaderFound.TheVariants.{Unread, Bad, Good}
use Rattle.fa_mount_headers.specs.declared.seen.Seen.{Seen}

-- of some answers the first that there is
abbrev pub first_of : {X : Type 0} → List (Option X) → Option X
first_of [] = None
first_of (Some x ∷ others) = Some x
first_of (None ∷ others) = first_of others

-- a fault of nobody, of an image, of an image with a header, or of a die
abbrev pub refused : MountFault → MountRefused
refused fault = record { fault = fault; image = None; die = None }

abbrev pub refused_at : MountFault → ℕ → MountRefused
refused_at fault index = record { fault = fault; image = Some index; die = None }

abbrev pub refused_for : MountFault → Seen → MountRefused
refused_for fault seen = record { fault = fault; image = Some seen.index; die = Some seen.header.die }

abbrev pub refused_die : MountFault → ℕ → MountRefused
refused_die fault die = record { fault = fault; image = None; die = Some (record { 0 = die }) }

-- ## What was read

abbrev pub is_unread_header : HeaderFound → Bool
is_unread_header Unread = true
is_unread_header found = false

abbrev pub is_bad_header : HeaderFound → Bool
is_bad_header Bad = true
is_bad_header found = false

-- each header was read
abbrev pub unread : List Found → Option MountRefused
unread founds = option_map (refused_at ImageFault) (position (λ found. is_unread_header found.header) founds)

-- each header that was read is in the grammar
abbrev pub bad : List Found → Option MountRefused
bad founds = option_map (refused_at HeaderBad) (position (λ found. is_bad_header found.header) founds)

-- the image at an index of the list, where it has a header
abbrev pub seen_at : ℕ → Geometry → HeaderFound → List Seen
seen_at index geometry (Good header) = record { index = index; geometry = geometry; header = header } ∷ []
seen_at index geometry found = []

-- the images with a header, of those from an index of the list on; all others are left aside
abbrev pub seen_from : ℕ → List Found → List Seen
seen_from index [] = []
seen_from index (found ∷ founds) = seen_at index found.geometry found.header ++ seen_from (suc index) founds

-- ## What the headers say

-- each header has this number of an array
abbrev pub of_another_array : List ℕ → List Seen → Option MountRefused
of_another_array array seen = option_map (refused_for ArraysDiffer) (find (λ x. not (bytes_eq x.header.array array)) seen)

abbrev pub is_geometry : Geometry → Geometry → Bool
is_geometry a b = a.dies == b.dies && a.spares == b.spares && a.blocks == b.blocks && a.slots == b.slots
    && a.page_bytes == b.page_bytes && a.pages == b.pages

-- each header has this geometry, and so has its image
abbrev pub of_another_geometry : Geometry → List Seen → Option MountRefused
of_another_geometry geometry seen = option_map (refused_for GeometryDiffers)
    (find (λ x. not (is_geometry x.header.geometry geometry && is_geometry x.geometry geometry)) seen)

-- An array of this geometry can hold so many copies of each page: two or three, no more than there are dies in use, and
-- with room for them.
abbrev pub can_hold : ℕ → Geometry → Bool
can_hold copies g = nat_le 2 copies && nat_le copies 3 && nat_le copies (g.dies - g.spares)
    && nat_le (copies * g.pages) ((g.dies - g.spares) * (g.blocks - 2) * g.slots)

abbrev pub without_room : ℕ → Seen → Option MountRefused
without_room copies x = if can_hold copies x.header.geometry then None else Some (refused_for GeometryDiffers x)

-- an image before an index of the list is this die
abbrev pub has_earlier : List Seen → ℕ → ℕ → Bool
has_earlier seen die index = list_any (λ x. x.header.die.0 == die && nat_lt x.index index) seen

-- no two images are one die
abbrev pub die_twice : List Seen → Option MountRefused
die_twice seen = option_map (refused_for DieTwice) (find (λ x. has_earlier seen x.header.die.0 x.index) seen)

-- ## What the headers of the greatest epoch say

-- the greatest epoch: 0 where there are spares alone
abbrev pub greatest_epoch : List Seen → ℕ
greatest_epoch seen = fold (λ most x. max most x.header.epoch) 0 seen

-- the mask of an epoch: that of the first header that has the epoch
abbrev pub mask_in : ℕ → List Seen → ℕ
mask_in epoch seen = unwrap_or (option_map (λ x. x.header.mask) (find (λ x. x.header.epoch == epoch) seen)) 0

-- each header of an epoch has this mask
abbrev pub of_another_mask : ℕ → ℕ → List Seen → Option MountRefused
of_another_mask epoch mask seen =
    option_map (refused_for ArraysDiffer) (find (λ x. x.header.epoch == epoch && not (x.header.mask == mask)) seen)

-- the die is in the mask
abbrev pub is_in : ℕ → ℕ → Bool
is_in mask die = bit_at mask die == 1

-- the die was closed clean in this epoch, and is no spare
abbrev pub is_clean : ℕ → List Seen → ℕ → Bool
is_clean epoch seen die = list_any (λ x. x.header.die.0 == die && not x.header.spare && x.header.epoch == epoch && x.header.clean) seen

-- the die is in the mask, and was not closed clean in this epoch
abbrev pub is_unclean_die : ℕ → ℕ → List Seen → ℕ → Bool
is_unclean_die epoch mask seen die = is_in mask die && not (is_clean epoch seen die)

-- the first such die, of so many dies
abbrev pub unclean_die : ℕ → ℕ → ℕ → List Seen → Option ℕ
unclean_die dies epoch mask seen = find (is_unclean_die epoch mask seen) (range_with_len 0 dies)

-- a die of the mask has an image, and is no spare
abbrev pub has_live_die : ℕ → List Seen → Bool
has_live_die mask seen = list_any (λ x. not x.header.spare && is_in mask x.header.die.0) seen

-- each die of the mask was closed clean in this epoch, where an unclean array may not be mounted
abbrev pub unclean : ℕ → Bool → ℕ → ℕ → List Seen → Option MountRefused
unclean dies is_unclean epoch mask seen =
    if is_unclean then None else option_map (refused_die Unclean) (unclean_die dies epoch mask seen)

-- a die of the mask is left
abbrev pub no_die_live : ℕ → List Seen → Option MountRefused
no_die_live mask seen = if has_live_die mask seen then None else Some (refused NoDieLive)

-- ## The order

-- of the headers of the greatest epoch and its mask, in an array of so many dies
abbrev pub epoch_refusal : ℕ → Bool → ℕ → ℕ → List Seen → Option MountRefused
epoch_refusal dies is_unclean epoch mask seen =
    first_of (of_another_mask epoch mask seen ∷ unclean dies is_unclean epoch mask seen ∷ no_die_live mask seen ∷ [])

-- of the images that have a header
abbrev pub seen_refusal : ℕ → Bool → List Seen → Option MountRefused
seen_refusal copies is_unclean [] = Some (refused NoDieLive)
seen_refusal copies is_unclean (x ∷ others) =
    let seen = x ∷ others in
    let epoch = greatest_epoch seen in
    first_of (
    of_another_array x.header.array seen
    ∷ of_another_geometry x.header.geometry seen
    ∷ without_room copies x
    ∷ die_twice seen
    ∷ epoch_refusal x.header.geometry.dies is_unclean epoch (mask_in epoch seen) seen
    ∷ []
    )

-- of all images; where an unclean array may be mounted, those that have no header are left aside
abbrev pub reading_refusal : Bool → List Found → Option MountRefused
reading_refusal is_unclean founds = if is_unclean then None else first_of (unread founds ∷ bad founds ∷ [])

-- why images with these headers are not mounted, if they are not
abbrev pub header_refusal : ℕ → Bool → List Found → Option MountRefused
header_refusal copies is_unclean founds =
    first_of (reading_refusal is_unclean founds ∷ seen_refusal copies is_unclean (seen_from 0 founds) ∷ [])
