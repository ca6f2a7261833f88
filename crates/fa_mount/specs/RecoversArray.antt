-- What recovering an array comes to: one that was not closed, whose dies have to be all there.
use Rattle.std.specs.Prelude.{◌≡◌, ◌⊎◌, ℕ, true, List, None}
use Rattle.fa_image.specs.Image.{ImageState, ImageCall, ImageAnswer}
use Rattle.fa_machine.specs.State.{Core}
use Rattle.fa_mount.specs.MountsArray.{IsTooLate, MountsArray}
use Rattle.fa_mount_headers.specs.Recovering.{recovery_refusal}
use Rattle.fa_mount_headers.specs.declared.fault.MountRefused.{MountRefused}
use Rattle.fa_mount_headers.specs.declared.found.Found.{Found}
use Rattle.fa_mount_headers.specs.declared.judging.Standing.{Standing}
use Rattle.fa_mount_scan.specs.Recovering.{RefusesRecovery, slots_refusal}

module _ {I : Type 0} (A : Type 0) (view : I → ImageState) (made : I → ImageCall → ImageAnswer → I → Type 0) (copies : ℕ) where
  -- Images were recovered, and this is the state of the array over them: they were mounted as those of an array that may be unclean, and
  -- neither their headers nor what was read of their slots keeps the array from being recovered.
  pub record RecoversArray (before after : List I) (array : List ℕ) (dies : List Standing) (core : Core) : Type 0 where
    pub mounts : MountsArray A view made copies true before after array dies core
    pub headers : recovery_refusal copies mounts.mounts.headers.founds ≡ None
    pub slots : slots_refusal copies mounts.mounts.judged.mask mounts.mounts.judged.dies.items mounts.mounts.outcomes ≡ None

  -- the same, by the headers that were found
  abbrev pub RecoversArrayBy : List I → List I → List Found → List ℕ → List Standing → Core → Type 0
  RecoversArrayBy before after founds array dies core =
      (recovers : RecoversArray before after array dies core) × (recovers.mounts.mounts.headers.founds ≡ founds)

  -- why there is no array: the images are not recovered, or the greatest epoch is too great, which is told last
  abbrev pub RefusesRecovered : List I → List I → MountRefused → Type 0
  RefusesRecovered before after refusal =
      RefusesRecovery A view made copies before after refusal ⊎ IsTooLate A view made copies true before after refusal
