-- The images of a world's dies, and what the calls of one die change of a world.
use Rattle.std.specs.Prelude.{◌≡◌, ℕ, ◌*◌, ◌<◌}
use Rattle.fa_image.specs.Image.{ImageState, slot_at}
use Rattle.fa_machine.specs.World.{World}
use Rattle.fa_mount_scan.specs.ContentCells.{IsCellOf}

module _ {I : Type 0} (view : I → ImageState) where
  -- The image is made for the array's geometry, and the bytes in its slots are what the world sees on the die.
  pub record IsImageOf (w : World) (die : ℕ) (image : I) : Type 0 where
    pub shape : (view image).geometry ≡ w.core.page_map.geometry
    pub cells : (slot : ℕ) → slot < w.core.page_map.geometry.blocks * w.core.page_map.geometry.slots
        → IsCellOf (slot_at slot (view image)) ((w.images die).seen slot)

-- The calls of a die's job changed its image and what they gave, and nothing else of the world.
pub record OnlyCalled (w : World) (die : ℕ) (v : World) : Type 0 where
  pub images : (d : ℕ) → ¬ (d ≡ die) → v.images d ≡ w.images d
  pub works : (d : ℕ) → ¬ (d ≡ die) → v.works d ≡ w.works d
  pub rest : v ≡ record w { images = v.images; works = v.works }
