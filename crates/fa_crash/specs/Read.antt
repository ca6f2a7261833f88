-- What was read of the slots that a cut left.
use Rattle.std.specs.Prelude.{◌≡◌, ℕ, ◌*◌, ◌<◌, true, List, None, Some, Ok, count_by, length, slice_get}
use Rattle.std.specs.FinMap.{contains_key}
use Rattle.fa_machine.specs.Among.{Among}
use Rattle.fa_machine.specs.Cells.{Cell}
use Rattle.fa_machine.specs.Maps.{below}
use Rattle.fa_machine.specs.World.{World}
use Rattle.fa_mount_headers.specs.declared.seen.Seen.{Seen}
use Rattle.fa_mount_scan.specs.ContentCells.{IsCellOf}
use Rattle.fa_mount_scan.specs.ContentReading.{IsContentOf}
use Rattle.fa_mount_headers.specs.Rules.{greatest_epoch, is_in, mask_in}
use Rattle.fa_mount_headers.specs.declared.judging.Standing.{Standing}
use Rattle.fa_mount_scan.specs.Recovering.{is_gone, outcome_at, too_few}
use Rattle.fa_mount_scan.specs.Scanned.{Outcome}
use Rattle.fa_mount_scan.specs.declared.slots.content.SlotContent.{SlotContent}
use Rattle.fa_types.specs.declared.geometry.Geometry.{Geometry}

-- the bytes of a slot were read as this content, and are this cell
abbrev pub IsCellRead : Geometry → ℕ → ℕ → SlotContent → Cell → Type 0
IsCellRead geometry die slot content cell =
    (bytes : List ℕ) × IsContentOf bytes geometry.pages die slot content × IsCellOf bytes cell

-- Each slot of the die was read as what a cut left there.
pub record IsReadLeft (geometry : Geometry) (cells : ℕ → ℕ → Cell) (die : ℕ) (outcome : Outcome) : Type 0 where
  pub slots : List SlotContent
  pub is : outcome ≡ Some (Ok slots)
  pub each : (slot : ℕ) (content : SlotContent) → slice_get slots slot ≡ Some content
      → (slot < geometry.blocks * geometry.slots) × IsCellRead geometry die slot content (cells die slot)

-- the same of each die of the mask of the greatest epoch
abbrev pub AreReadLeft : World → (ℕ → ℕ → Cell) → List Seen → List Outcome → Type 0
AreReadLeft first cells seen outcomes = (die : ℕ) → is_in (mask_in (greatest_epoch seen) seen) die ≡ true
    → IsReadLeft first.core.page_map.geometry cells die (outcome_at outcomes die)

-- a die whose header has the mark of a spare was a spare as the array was mounted
abbrev pub AreSparesMarked : World → List Seen → Type 0
AreSparesMarked first seen = (x : Seen) → Among x seen → x.header.spare ≡ true → contains_key first.core.spares x.header.die.0 ≡ true

-- fewer dies are out than each page has copies
abbrev pub AreFewGone : ℕ → ℕ → List Standing → List Outcome → Type 0
AreFewGone copies mask standings outcomes = too_few copies (count_by (is_gone mask standings outcomes) (below (length standings))) ≡ None
