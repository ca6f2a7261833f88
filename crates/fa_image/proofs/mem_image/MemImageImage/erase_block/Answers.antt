-- The bytes of the block's slots are written, and no others.
use Rattle.std.proofs.Common.{◌≡◌, ◌∙◌, ap, subst, refl, ℕ, ◌*◌, List, length, replicate, arith}
use Rattle.fa_types.specs.Store.{with_bytes}
use Rattle.fa_image.specs.Image.{slot_bytes, slot_count}
use Rattle.fa_image.specs.Memory.{mem_image_view}
use Rattle.fa_image.specs.Untouched.{block_fits}
use Rattle.fa_image.specs.Cuts.{part_fits}
use Rattle.fa_image.proofs.PutBack.{put_filled}
use Rattle.fa_image.proofs.mem_image.MemImageImage.erase_block.Goals as goal

pub fill-requires : goal.fill-requires
fill-requires g c =
    let image = c.args.self.now in
    let slots = image.geometry.slots in
    let size = slot_bytes image.geometry in
    let below = block_fits c.args.block slots image.geometry.blocks c.requires in
    let fits = part_fits (c.args.block * slots) slots (slot_count image.geometry) size below in
    let first : c.args.block * slots * c.slot_bytes-size.result ≡ c.args.block * slots * size =
    ap (λ (n : ℕ). c.args.block * slots * n) c.slot_bytes-size.ensures.value in
    let second : slots * c.slot_bytes-size.result ≡ slots * size = ap (λ (n : ℕ). slots * n) c.slot_bytes-size.ensures.value in
    let whole : length c.deref_mut.result.now ≡ slot_count image.geometry * size =
    ap (λ (l : List ℕ). length l) c.deref_mut.ensures.value ∙ image.sized in
    omega (arith, fits, first, second, whole)

pub returns-clause-done : goal.returns-clause-done
returns-clause-done g c =
    let image = c.args.self.now in
    let count = slot_count image.geometry in
    let size = slot_bytes image.geometry in
    let slots = image.geometry.slots in
    let first = c.args.block * slots in
    let old = c.deref_mut.result.now in
    let put : c.fill.new.into ≡ with_bytes (first * size) (replicate (slots * size) 0xff) old =
    subst (λ (n : ℕ). c.fill.new.into ≡ with_bytes (first * n) (replicate (slots * n) 0xff) old) c.slot_bytes-size.ensures.value
    c.fill.ensures in
    record {
      allowed = c.requires;
      answers = tt;
      accepts = tt;
      told = tt;
      leads = ap (λ (l : List (List ℕ)). record (mem_image_view image) { slots = l })
          (put_filled count size first slots image.slots.len 0xff old image.slots.items c.fill.new.into put c.deref_mut.ensures.value
          image.sized c.deref_mut.ensures.len (block_fits c.args.block slots image.geometry.blocks c.requires));
      overwrites = refl;
    }
