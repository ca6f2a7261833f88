-- What mounting comes to: the headers of all images are read and judged, and then the slots of the dies in use and of
-- the spares.
use Rattle.std.specs.Prelude.{◌≡◌, ◌⊎◌, ℕ, Bool, List, length, Some, None}
use Rattle.fa_image.specs.Image.{ImageState, ImageCall, ImageAnswer}
use Rattle.fa_machine.specs.State.{MapState}
use Rattle.fa_mount_headers.specs.declared.fault.MountFault.TheVariants.{NoMemory}
use Rattle.fa_mount_headers.specs.declared.fault.MountRefused.{MountRefused}
use Rattle.fa_mount_headers.specs.declared.found.Found.{Found}
use Rattle.fa_mount_headers.specs.declared.judging.Judged.{Judged}
use Rattle.fa_mount_headers.specs.declared.judging.Standing.{Standing}
use Rattle.fa_mount_scan.specs.ContentReading.{AreOutcomes}
use Rattle.fa_mount_headers.specs.Found.{ReadsHeaders}
use Rattle.fa_mount_headers.specs.Judged.{IsJudged}
use Rattle.fa_mount_headers.specs.Rules.{header_refusal, refused, seen_from}
use Rattle.fa_mount_scan.specs.Scanned.{Outcome, IsScan, IsScanRefused}

module _ {I : Type 0} (A : Type 0) (view : I → ImageState) (made : I → ImageCall → ImageAnswer → I → Type 0) (copies : ℕ)
    (unclean : Bool) where
  -- the header of each image was read, and this is the array that they say
  pub record SayArray (before after : List I) (judged : Judged A) : Type 0 where
    pub founds : List Found
    pub read : ReadsHeaders view made before after founds
    pub each : length founds ≡ length before
    pub fine : header_refusal copies unclean founds ≡ None
    pub judges : IsJudged (seen_from 0 founds) judged

  -- Images were mounted: after the headers the slots were read, and this is what they hold.
  pub record Mounts (before after : List I) (array : List ℕ) (epoch : ℕ) (clean : Bool) (dies : List Standing) (m : MapState) : Type 0 where
    pub between : List I
    pub judged : Judged A
    pub headers : SayArray before between judged
    pub outcomes : List Outcome
    pub read : AreOutcomes made judged.geometry between after judged.dies.items outcomes
    pub scan : IsScan judged.geometry judged.dies.items unclean outcomes dies m
    pub identity : (array ≡ judged.array) × (epoch ≡ judged.epoch) × (clean ≡ judged.clean)

  -- the same, by the headers that were found
  abbrev pub MountsBy : List I → List I → List Found → List ℕ → ℕ → Bool → List Standing → MapState → Type 0
  MountsBy before after founds array epoch clean dies m =
      (mounts : Mounts before after array epoch clean dies m) × (mounts.headers.founds ≡ founds)

  -- why images were not: memory was refused, or it is by the headers, or by the slots
  abbrev pub RefusesMount : List I → List I → MountRefused → Type 0
  RefusesMount before after refusal =
      (refusal ≡ refused NoMemory)
      ⊎ ((founds : List Found) × ReadsHeaders view made before after founds × (length founds ≡ length before)
      × (header_refusal copies unclean founds ≡ Some refusal))
      ⊎ ((between : List I) × (judged : Judged A) × SayArray before between judged × (outcomes : List Outcome)
      × AreOutcomes made judged.geometry between after judged.dies.items outcomes
      × IsScanRefused judged.dies.items unclean outcomes refusal)
