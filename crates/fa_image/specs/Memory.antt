-- An image in memory.
use Rattle.std.specs.Prelude.{◌≡◌, ℕ, ◌==◌, if◌then◌else◌}
use Rattle.std.specs.List.{list_all}
use Rattle.fa_image.specs.Cut.{cut, AreSlots-cut}
use Rattle.fa_image.specs.Image.{ImageState, IsImage, ImageCall, Programming, ImageAnswer, Gave, Done, Refused}
use Rattle.fa_image.specs.Image.{IsCallOf, IsAnswerTo, IsTrueAnswer, accepted, slot_bytes, slot_count, slot_at, one_more}
use Rattle.fa_image.specs.declared.mem_image.MemImage.{MemImage}

-- an answer that is no refusal
abbrev pub IsAccepted : ImageAnswer → Type 0
IsAccepted (Gave bytes) = Unit {0}
IsAccepted Done = Unit {0}
IsAccepted (Refused fault) = ⊥

-- how many programs met a slot that was not erased, after a call
abbrev pub overwrites_after : ImageCall → ImageState → ℕ → ℕ
overwrites_after (Programming slot bytes) image n = (if list_all (λ byte. byte == 0xff) (slot_at slot image) then n else one_more n)
overwrites_after call image n = n

module _ {A : Type 0} where
  abbrev pub mem_image_view : MemImage A → ImageState
  mem_image_view image = record {
    geometry = image.geometry;
    slots = cut (slot_count image.geometry) (slot_bytes image.geometry) image.slots.items;
    header = image.header;
    syncs = image.syncs;
    faults = 0;
  }

  -- how many programs met a slot that was not erased
  abbrev pub mem_image_overwrites : MemImage A → ℕ
  mem_image_overwrites image = image.overwrites

  -- One call of an image in memory: it is never refused, and what is read is what stands there.
  pub record MemImageMade (before : MemImage A) (call : ImageCall) (answer : ImageAnswer) (after : MemImage A) : Type 0 where
    pub allowed : IsCallOf before.geometry call
    pub answers : IsAnswerTo before.geometry call answer
    pub accepts : IsAccepted answer
    pub told : IsTrueAnswer call answer (mem_image_view before)
    pub leads : mem_image_view after ≡ accepted call (mem_image_view before)
    pub overwrites : mem_image_overwrites after ≡ overwrites_after call (mem_image_view before) (mem_image_overwrites before)

  pub mem_image_whole : (image : MemImage A) → IsImage (mem_image_view image)
  mem_image_whole image = record {
    whole = AreSlots-cut (slot_count image.geometry) (slot_bytes image.geometry) image.slots.items image.sized;
    headed = image.headed;
  }
