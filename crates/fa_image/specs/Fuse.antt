-- An image with a fuse: one call of it, counted from when it was armed, fails and never reaches the image.
use Rattle.std.specs.Prelude.{◌≡◌, ◌≢◌, ℕ, ◌-◌}
use Rattle.fa_image.specs.Image.{ImageState, ImageCall, ImageAnswer, Refused, fault_of, IsCallOf, faults_after}
use Rattle.fa_image.specs.declared.fuse_image.FuseImage.{FuseImage}

module _ {I : Type 0} where
  -- the image behind the fuse
  abbrev pub inner_of : FuseImage I → I
  inner_of image = image.inner

  -- how many calls there are up to the one that fails; 0 where none does
  abbrev pub calls_left : FuseImage I → ℕ
  calls_left image = image.calls_left

  -- what is seen of the image behind it, with the faults of both
  abbrev pub fused_view : (I → ImageState) → FuseImage I → ImageState
  fused_view view image = record (view image.inner) { faults = image.faults }

  -- One call of an image with a fuse, over the view and the calls of the image behind it. The armed call
  -- fails and makes no call of that image. Any other is one call of it, and has its answer.
  pub record FuseMade (view : I → ImageState) (made : I → ImageCall → ImageAnswer → I → Type 0)
      (before : FuseImage I) (call : ImageCall) (answer : ImageAnswer) (after : FuseImage I) : Type 0 where
    pub allowed : IsCallOf (view (inner_of before)).geometry call
    pub counts : calls_left after ≡ calls_left before - 1
    pub blown : calls_left before ≡ 1 → (answer ≡ Refused (fault_of call)) × (inner_of after ≡ inner_of before)
    pub passed : calls_left before ≢ 1 → made (inner_of before) call answer (inner_of after)
    pub faults : after.faults ≡ faults_after answer before.faults
