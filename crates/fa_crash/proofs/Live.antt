-- A die that stands as live, and whose slots were read, is live in what is mounted.
use Rattle.fa_image.specs.Image.{ImageAnswer, ImageCall, ImageState}
use Rattle.fa_machine.specs.State.{MapState, is_live}
use Rattle.fa_mount_headers.specs.Judged.{standing_of}
use Rattle.fa_mount_headers.specs.Rules.{greatest_epoch, mask_in, seen_from}
use Rattle.fa_mount_headers.specs.declared.judging.Standing.{Standing}
use Rattle.fa_mount_headers.specs.declared.judging.Standing.TheVariants.{Live}
use Rattle.fa_mount_headers.specs.declared.seen.Seen.{Seen}
use Rattle.fa_mount_scan.specs.Mounting.{Mounts}
use Rattle.fa_mount_scan.specs.declared.slots.content.SlotContent.{SlotContent}
use Rattle.fa_types.specs.declared.geometry.Geometry.{Geometry}
use Rattle.std.proofs.Common.{Bool, List, None, Some, ap, arith, map, slice_get, subst, true, ℕ, ◌<◌, ◌∙◌, ◌≡◌}
use Rattle.std.proofs.lemmas.List.FromFn.{get_or-map-range_with_len, length-map-range_with_len}
use Rattle.std.proofs.lemmas.Option.{get_or_from_slice_get, slice_get-get_or}
use Rattle.std.specs.List.{range_with_len}
use Rattle.std.specs.Prelude.{Ok, is_some}

pub mounted_live : {I : Type 0} (A : Type 0) (view : I → ImageState) (made : I → ImageCall → ImageAnswer → I → Type 0) (copies : ℕ) (unclean : Bool)
    (before after : List I) (array : List ℕ) (epoch : ℕ) (clean : Bool) (dies : List Standing) (m : MapState)
    → (mounts : Mounts A view made copies unclean before after array epoch clean dies m) → (die index : ℕ) (slots : List SlotContent)
    → die < m.geometry.dies
    → (let seen = seen_from 0 mounts.headers.founds in standing_of (mask_in (greatest_epoch seen) seen) seen die ≡ Live index)
    → slice_get mounts.outcomes die ≡ Some (Some (Ok slots)) → is_live m die ≡ true
mounted_live A view made copies unclean before after array epoch clean dies m mounts die index slots low stands read =
    let seen : List Seen = seen_from 0 mounts.headers.founds in
    let judges = mounts.headers.judges in
    let mask_is = judges.mask ∙ ap (λ e. mask_in e seen) judges.epoch in
    let inside : die < mounts.judged.geometry.dies = subst (λ (g : Geometry). die < g.dies) mounts.scan.mounts.shape low in
    let standing : ℕ → Standing = standing_of mounts.judged.mask seen in
    let long = length-map-range_with_len standing 0 mounts.judged.geometry.dies in
    let at : slice_get (map standing (range_with_len 0 mounts.judged.geometry.dies)) die ≡ Some (standing die) =
    slice_get-get_or (map standing (range_with_len 0 mounts.judged.geometry.dies)) die (standing die) (omega (arith, inside, long))
    ∙ ap Some (get_or-map-range_with_len standing 0 mounts.judged.geometry.dies die die (standing die) inside (omega arith)) in
    let live : slice_get mounts.judged.dies.items die ≡ Some (Live index) =
    ap (λ (l : List Standing). slice_get l die) judges.dies ∙ at ∙ ap Some (ap (λ n. standing_of n seen die) mask_is ∙ stands) in
    let found = (mounts.scan.settles.each die (Live index) (Some (Ok slots)) live read).1 in
    mounts.scan.mounts.live die ∙ ap is_some (get_or_from_slice_get mounts.scan.contents die (Some slots) None found)
