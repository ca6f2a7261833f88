-- What mounting an array comes to: its images are scanned, and the array is the one over what they hold.
use Rattle.std.specs.Prelude.{◌≡◌, ℕ, ◌-◌, ◌^◌, ◌<◌, ◌≤◌, ◌⊎◌, Bool, List}
use Rattle.fa_mount_headers.specs.declared.fault.MountFault.TheVariants.{HeaderBad}
use Rattle.fa_mount_headers.specs.declared.fault.MountRefused.{MountRefused}
use Rattle.fa_mount_headers.specs.declared.found.Found.{Found}
use Rattle.fa_mount_headers.specs.declared.judging.Standing.{Standing}
use Rattle.fa_mount_headers.specs.Rules.{refused}
use Rattle.fa_image.specs.Image.{ImageState, ImageCall, ImageAnswer}
use Rattle.fa_machine.specs.State.{Core, MapState}
use Rattle.fa_mount.specs.Begins.{IsBegun}
use Rattle.fa_mount_scan.specs.Mounting.{Mounts, RefusesMount}

module _ {I : Type 0} (A : Type 0) (view : I → ImageState) (made : I → ImageCall → ImageAnswer → I → Type 0) (copies : ℕ)
    (unclean : Bool) where
  -- Images were mounted, and this is the state of the array over them. The greatest epoch of the headers leaves room for those to come.
  pub record MountsArray (before after : List I) (array : List ℕ) (dies : List Standing) (core : Core) : Type 0 where
    pub epoch : ℕ
    pub clean : Bool
    pub m : MapState
    pub mounts : Mounts A view made copies unclean before after array epoch clean dies m
    pub low : epoch ≤ 2 ^ 62 - 256
    pub begins : IsBegun copies m dies epoch core

  -- the same, by the headers that were found
  abbrev pub MountsArrayBy : List I → List I → List Found → List ℕ → List Standing → Core → Type 0
  MountsArrayBy before after founds array dies core =
      (mounts : MountsArray before after array dies core) × (mounts.mounts.headers.founds ≡ founds)

  -- images were mounted, and the greatest epoch of their headers is too great
  pub record IsTooLate (before after : List I) (refusal : MountRefused) : Type 0 where
    pub array : List ℕ
    pub epoch : ℕ
    pub clean : Bool
    pub dies : List Standing
    pub m : MapState
    pub mounts : Mounts A view made copies unclean before after array epoch clean dies m
    pub high : 2 ^ 62 - 256 < epoch
    pub is : refusal ≡ refused HeaderBad

  -- why there is no array: the images are not mounted, or the epoch is too great, which is told last
  abbrev pub RefusesArray : List I → List I → MountRefused → Type 0
  RefusesArray before after refusal =
      RefusesMount A view made copies unclean before after refusal ⊎ IsTooLate before after refusal
