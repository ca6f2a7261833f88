-- Bytes that are all ff give slots that are all erased.
use Rattle.std.proofs.Common.{◌≡◌, ◌∙◌, ap, ℕ, ◌*◌, List, replicate}
use Rattle.fa_types.specs.declared.geometry.Geometry.{Geometry}
use Rattle.fa_image.specs.Cut.{cut}
use Rattle.fa_image.specs.Image.{ImageState, erased_slot, slot_bytes, slot_count}
use Rattle.fa_image.specs.Cuts.{cut-replicate}
use Rattle.fa_image.proofs.mem_image.MemImage.new.Goals as goal

-- a new image with these slots
seen : Geometry → List (List ℕ) → ImageState
seen geometry slots = record { geometry = geometry; slots = slots; header = replicate 112 0; syncs = 0; faults = 0 }

erased : (geometry : Geometry) (bytes : List ℕ) → bytes ≡ replicate (slot_count geometry * slot_bytes geometry) 0xff
    → seen geometry (cut (slot_count geometry) (slot_bytes geometry) bytes)
    ≡ seen geometry (replicate (slot_count geometry) (erased_slot (slot_bytes geometry)))
erased geometry bytes filled =
    ap (λ (l : List ℕ). seen geometry (cut (slot_count geometry) (slot_bytes geometry) l)) filled
    ∙ ap (seen geometry) (cut-replicate (slot_count geometry) (slot_bytes geometry) 0xff)

pub returns-clause-view : goal.returns-clause-view
unfolding seen
returns-clause-view g c =
    erased c.args.geometry c.in_ok-slots.slots.items
    (c.in_ok-slots.ensures.items_if_clones_equal (λ (y : ℕ) (same : y ≡ 0xff). same)
    ∙ ap (λ (n : ℕ). replicate (n * c.slot_bytes.result) 0xff) c.slot_count.ensures.value
    ∙ ap (λ (n : ℕ). replicate (slot_count c.args.geometry * n) 0xff) c.slot_bytes.ensures.value)
