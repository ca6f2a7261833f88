-- An image in a file.
use Rattle.std.specs.Prelude.{◌≡◌, Bool}
use Rattle.fa_image.specs.File.{state_in, after_call}
use Rattle.fa_image.specs.Image.{ImageState, ImageCall, ImageAnswer, IsCallOf, IsAnswerTo, syncs_after, faults_after}
use Rattle.fa_image.specs.declared.file_image.FileImage.{FileImage}

abbrev pub file_view : FileImage → ImageState
file_view image = state_in image.geometry image.held.shown.bytes image.syncs image.faults

-- each read so far gave what stands in the file
abbrev pub file_is_honest : FileImage → Bool
file_is_honest image = image.held.shown.honest

-- One call of an image in a file, and what the file holds after it.
pub record FileMade (before : FileImage) (call : ImageCall) (answer : ImageAnswer) (after : FileImage) : Type 0 where
  pub allowed : IsCallOf before.geometry call
  pub answers : IsAnswerTo before.geometry call answer
  pub geometry : after.geometry ≡ before.geometry
  pub contents : after.held.shown ≡ after_call before.geometry call answer before.held.shown
  pub syncs : after.syncs ≡ syncs_after call answer before.syncs
  pub faults : after.faults ≡ faults_after answer before.faults
