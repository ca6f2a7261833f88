-- The shape of an array: how many dies, blocks, slots and pages there are, and their limits.
use Rattle.std.specs.Prelude.{ℕ, ◌+◌, ◌-◌, ◌*◌, ◌/◌, ◌<◌, ◌≤◌, Bool, ◌||◌, ◌==◌, IsTrue}
use Rattle.fa_types.specs.declared.geometry.GeometryFault.{GeometryFault}
use Rattle.fa_types.specs.declared.geometry.GeometryFault.TheVariants.{Dies, Blocks, Slots, PageBytes, Pages, Copies}

-- 2 to 64 dies, of which all but two may be spares
pub record AreDies (dies spares : ℕ) : Type 0 where
  pub least : 2 ≤ dies
  pub most : dies ≤ 64
  pub two_in_use : spares + 2 ≤ dies

-- 4 to 4096 blocks of a die
abbrev pub AreBlocks : ℕ → Type 0
AreBlocks blocks = (4 ≤ blocks) × (blocks ≤ 4096)

-- 4 to 256 slots of a block
abbrev pub AreSlotsOfBlock : ℕ → Type 0
AreSlotsOfBlock slots = (4 ≤ slots) × (slots ≤ 256)

-- the four sizes of a page, in bytes
abbrev pub is_page_size : ℕ → Bool
is_page_size bytes = bytes == 512 || bytes == 1024 || bytes == 2048 || bytes == 4096

-- at least one page, and room for two copies of each on the dies in use, with two blocks of each die left over
pub record ArePages (dies spares blocks slots pages : ℕ) : Type 0 where
  pub least : 1 ≤ pages
  pub most : pages ≤ 1048576
  pub fit_twice : 2 * pages ≤ (dies - spares) * (blocks - 2) * slots

-- all of them within their limits
pub record IsGeometry (dies spares blocks slots page_bytes pages : ℕ) : Type 0 where
  pub dies_fit : AreDies dies spares
  pub blocks_fit : AreBlocks blocks
  pub slots_fit : AreSlotsOfBlock slots
  pub page_fits : IsTrue (is_page_size page_bytes)
  pub pages_fit : ArePages dies spares blocks slots pages

-- the block in which a slot of a die lies
abbrev pub block_of : ℕ → ℕ → ℕ
block_of slots slot = slot / slots

-- a place is a die and a slot; it is one of an array with so many dies, blocks and slots
pub record IsPlace (dies blocks slots die slot : ℕ) : Type 0 where
  pub on_a_die : die < dies
  pub on_the_die : slot < blocks * slots

-- Two or three copies of each page, no more than there are dies in use, and room for them on those dies, with two
-- blocks of each die left over.
pub record AreCopies (copies dies spares blocks slots pages : ℕ) : Type 0 where
  pub two_or_three : (2 ≤ copies) × (copies ≤ 3)
  pub each_on_a_die : copies ≤ dies - spares
  pub fit : copies * pages ≤ (dies - spares) * (blocks - 2) * slots

-- the first of the five limits, in this order, that the numbers break; how many copies there are is no part of a geometry
abbrev pub IsFirstFault : (dies spares blocks slots page_bytes pages : ℕ) → GeometryFault → Type 0
IsFirstFault dies spares blocks slots page_bytes pages Dies = ¬ (AreDies dies spares)
IsFirstFault dies spares blocks slots page_bytes pages Blocks = AreDies dies spares × (¬ (AreBlocks blocks))
IsFirstFault dies spares blocks slots page_bytes pages Slots =
    AreDies dies spares × AreBlocks blocks × (¬ (AreSlotsOfBlock slots))
IsFirstFault dies spares blocks slots page_bytes pages PageBytes =
    AreDies dies spares × AreBlocks blocks × AreSlotsOfBlock slots × (¬ (IsTrue (is_page_size page_bytes)))
IsFirstFault dies spares blocks slots page_bytes pages Pages =
    AreDies dies spares × AreBlocks blocks × AreSlotsOfBlock slots × IsTrue (is_page_size page_bytes)
    × (¬ (ArePages dies spares blocks slots pages))
IsFirstFault dies spares blocks slots page_bytes pages Copies = ⊥

-- the faults are numbered in that order
abbrev pub geometry_fault_number : GeometryFault → ℕ
geometry_fault_number Dies = 1
geometry_fault_number Blocks = 2
geometry_fault_number Slots = 3
geometry_fault_number PageBytes = 4
geometry_fault_number Pages = 5
geometry_fault_number Copies = 6
