-- There is an array over whatever was mounted.
use Rattle.std.proofs.Common.{◌≡◌, ℕ, Bool, List, length, sym, ap, subst, ◌∙◌, arith}
use Rattle.std.proofs.lemmas.List.FromFn.{length-map-range_with_len}
use Rattle.fa_types.specs.Geometry.{AreCopies}
use Rattle.fa_types.specs.declared.geometry.Geometry.{Geometry}
use Rattle.fa_image.specs.Image.{ImageState, ImageCall, ImageAnswer}
use Rattle.fa_machine.specs.State.{MapState}
use Rattle.fa_mount_headers.specs.declared.judging.Standing.{Standing}
use Rattle.fa_mount_headers.specs.Judged.{standing_of}
use Rattle.fa_mount_headers.specs.Rules.{seen_from}
use Rattle.fa_mount.specs.Begins.{MayBegin}
use Rattle.fa_mount_scan.specs.Mounting.{Mounts}
use Rattle.fa_mount.proofs.Numbers.{numbers_fit}
use Rattle.fa_mount.proofs.Room.{copies_fit, is_held}
use Rattle.fa_mount.proofs.Spares.{spare_not_live}

pub may_begin : {I A : Type 0} (view : I → ImageState) (made : I → ImageCall → ImageAnswer → I → Type 0) (copies : ℕ) (unclean : Bool)
    (before after : List I) (array : List ℕ) (epoch : ℕ) (clean : Bool) (dies : List Standing) (m : MapState)
    → Mounts A view made copies unclean before after array epoch clean dies m → length dies ≡ m.geometry.dies → MayBegin copies dies m
may_begin view made copies unclean before after array epoch clean dies m mounts many =
    let geometry = mounts.judged.geometry in
    let scan = mounts.scan in
    let judges = mounts.headers.judges in
    let shape = scan.mounts.shape in
    let standings = ap (λ (l : List Standing). length l) judges.dies
    ∙ length-map-range_with_len (standing_of mounts.judged.mask (seen_from 0 mounts.headers.founds)) 0 geometry.dies in
    let as_many = scan.settles.dies_length in
    let same : m.geometry.dies ≡ geometry.dies = ap (λ (g : Geometry). g.dies) shape in
    let long : length mounts.outcomes ≡ length mounts.judged.dies.items = omega (arith, many, as_many, standings, same) in
    record {
      all = many;
      apart = spare_not_live geometry mounts.judged.dies.items mounts.outcomes dies scan.contents m scan.settles long scan.mounts;
      numbers = numbers_fit made geometry mounts.between after mounts.judged.dies.items mounts.outcomes mounts.read dies scan.contents scan.settles
          long m scan.mounts;
      room = subst (λ (g : Geometry). AreCopies copies g.dies g.spares g.blocks g.slots g.pages) (sym shape)
          (copies_fit copies geometry (is_held copies unclean mounts.headers.founds mounts.judged mounts.headers.fine judges));
    }
