-- How slots are read ahead, into one buffer, before what they hold is looked at.
use Rattle.std.specs.Prelude.{◌≡◌, ℕ, zero, suc, ◌*◌, List, take, drop}
use Rattle.fa_image.specs.Image.{ImageCall, ReadingSlot, ImageAnswer, Gave}

-- the bytes of one of the slots that a buffer has one behind the other
abbrev pub slot_of : ℕ → List ℕ → ℕ → List ℕ
slot_of bytes buffer i = take bytes (drop (i * bytes) buffer)

-- so many slots were read, from one on, in their order, and their bytes stand in the buffer
abbrev pub ReadsAhead : {I : Type 0} → (I → ImageCall → ImageAnswer → I → Type 0) → ℕ → ℕ → ℕ → List ℕ → I → I → Type 0
ReadsAhead made bytes slot zero buffer before after = after ≡ before
ReadsAhead {I} made bytes slot (suc count) buffer before after =
    (middle : I) × made before (ReadingSlot slot) (Gave (take bytes buffer)) middle
    × ReadsAhead made bytes (suc slot) count (drop bytes buffer) middle after
