-- Images that write their slots whole.
use Rattle.std.specs.Prelude.{◌≡◌, ◌⊎◌, ℕ, ◌*◌, ◌/◌, ◌<◌, List}
use Rattle.fa_image.specs.Image.{ImageAnswer, ImageCall, ImageState, Erasing, Programming, Refused, slot_at}
use Rattle.fa_image.specs.declared.fault.ImageFault.{ImageFault}
use Rattle.fa_machine.specs.Cells.{Broken}
use Rattle.fa_mount_scan.specs.ContentCells.{IsCellOf}
use Rattle.fa_tag.specs.SlotGrammar.{IsErased}

-- A refused write leaves in each slot that it names what stood there, what was asked for, or bytes that are neither erased nor a good slot.
pub record WriteWhole {I : Type 0} (view : I → ImageState) (made : I → ImageCall → ImageAnswer → I → Type 0) : Type 0 where
  pub programs : (before after : I) (slot : ℕ) (bytes : List ℕ) (fault : ImageFault)
      → made before (Programming slot bytes) (Refused fault) after
      → (slot_at slot (view after) ≡ slot_at slot (view before)) ⊎ (slot_at slot (view after) ≡ bytes)
      ⊎ IsCellOf (slot_at slot (view after)) Broken
  pub erases : (before after : I) (block slot : ℕ) (fault : ImageFault) → made before (Erasing block) (Refused fault) after
      → slot / (view before).geometry.slots ≡ block → slot < (view before).geometry.blocks * (view before).geometry.slots
      → (slot_at slot (view after) ≡ slot_at slot (view before)) ⊎ IsErased (slot_at slot (view after))
      ⊎ IsCellOf (slot_at slot (view after)) Broken
