-- What is copied are the bytes of the slot.
use Rattle.std.proofs.Common.{◌≡◌, ◌∙◌, refl}
use Rattle.fa_image.specs.Image.{slot_bytes, slot_count, slot_at}
use Rattle.fa_image.specs.Memory.{mem_image_view}
use Rattle.fa_image.proofs.PutBack.{slot_part}
use Rattle.fa_image.proofs.mem_image.MemImageImage.read_slot.Goals as goal

pub returns-clause-gave : goal.returns-clause-gave
returns-clause-gave g c =
    let image = c.args.self.now in
    let count = slot_count image.geometry in
    let size = slot_bytes image.geometry in
    let slot = c.args.slot.0 in
    let read : c.part.result.now ≡ slot_at slot (mem_image_view image) =
    slot_part count size c.slot_bytes-size.result slot c.part.result.now c.deref.result.now image.slots.items c.part.ensures
    c.slot_bytes-size.ensures.value c.deref.ensures.value c.requires.slot in
    record {
      allowed = c.requires.slot;
      answers = c.copy_from_slice.ensures.len ∙ c.requires.length;
      accepts = tt;
      told = c.copy_from_slice.ensures.after ∙ read;
      leads = refl;
      overwrites = refl;
    }
