-- The bytes of the slot are written, and no others.
use Rattle.std.specs.List.{list_all}
use Rattle.std.specs.Prelude.{if◌then◌else◌, ◌==◌}
use Rattle.std.proofs.Common.{Bool, ◌≡◌, ◌∙◌, ap, subst, ℕ, ◌*◌, List}
use Rattle.fa_types.specs.Store.{with_bytes}
use Rattle.fa_image.specs.Image.{slot_bytes, slot_count, slot_at, one_more}
use Rattle.fa_image.specs.Memory.{mem_image_view}
use Rattle.fa_image.proofs.PutBack.{slot_part, put_one}
use Rattle.fa_image.proofs.mem_image.MemImageImage.program.Goals as goal

pub returns-clause-done : goal.returns-clause-done
returns-clause-done g c =
    let image = c.args.self.now in
    let count = slot_count image.geometry in
    let size = slot_bytes image.geometry in
    let slot = c.args.slot.0 in
    let bytes = c.args.bytes.now in
    let old = c.deref_mut.result.now in
    let put : c.put.new.into ≡ with_bytes (slot * size) bytes old =
    subst (λ (n : ℕ). c.put.new.into ≡ with_bytes (slot * n) bytes old) c.slot_bytes-size.ensures.value c.put.ensures in
    let read : c.part.result.now ≡ slot_at slot (mem_image_view image) =
    slot_part count size c.slot_bytes-size.result slot c.part.result.now c.deref.result.now image.slots.items c.part.ensures
    c.slot_bytes-size.ensures.value c.deref.ensures.value c.requires.slot in
    let erased : c.is_erased-erased.result ≡ list_all (λ byte. byte == 0xff) (slot_at slot (mem_image_view image)) =
    c.is_erased-erased.ensures.test ∙ ap (λ (l : List ℕ). list_all (λ byte. byte == 0xff) l) read in
    record {
      allowed = (c.requires.slot, c.requires.length);
      answers = tt;
      accepts = tt;
      told = tt;
      leads = ap (λ (slots : List (List ℕ)). record (mem_image_view image) { slots = slots })
          (put_one count size slot image.slots.len bytes old image.slots.items c.put.new.into put c.deref_mut.ensures.value image.sized
          c.deref_mut.ensures.len c.requires.slot c.requires.length);
      overwrites =
          subst (λ (b : Bool). c.count_unless-self.result ≡ (if b then image.overwrites else one_more image.overwrites)) erased
          c.count_unless-self.ensures;
    }
