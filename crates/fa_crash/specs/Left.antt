-- What is mounted of the images that a crash leaves.
use Rattle.std.specs.Prelude.{◌≡◌, ℕ, ◌*◌, ◌<◌, ◌≤◌, Bool, true, List, Some}
use Rattle.std.specs.FinMap.{get}
use Rattle.fa_machine.specs.declared.places.Version.{Version}
use Rattle.fa_machine.specs.Cells.{Cell}
use Rattle.fa_machine.specs.Copies.{holds_page}
use Rattle.fa_machine.specs.State.{MapState, is_live}
use Rattle.fa_machine.specs.World.{World}
use Rattle.fa_mount_scan.specs.ContentCells.{IsCellOf}
use Rattle.fa_mount_scan.specs.MountedWorld.{HoldMap, HoldsPayload, SlotBytes}
use Rattle.fa_crash.specs.Flushed.{is_of_array}

-- Bytes are what a cut left on the dies that the map says are live, and these are dies of the array.
pub record AreLeft (first w : World) (cells : ℕ → ℕ → Cell) (bytes : SlotBytes) (m : MapState) : Type 0 where
  pub shape : m.geometry ≡ w.core.page_map.geometry
  pub ours : (die : ℕ) → is_live m die ≡ true → is_of_array first die ≡ true
  pub left : (die slot : ℕ) → is_live m die ≡ true → slot < m.geometry.blocks * m.geometry.slots
      → IsCellOf (bytes die slot) (cells die slot)

-- the map is the mounted content of such bytes
pub record IsMountedLeft (first w : World) (cells : ℕ → ℕ → Cell) (bytes : SlotBytes) (is_spare : ℕ → Bool) (m : MapState) : Type 0 where
  pub holds : HoldMap bytes is_spare m.geometry m
  pub are_left : AreLeft first w cells bytes m

-- What is mounted of a page: its number is this one or a greater one, a die holds it, and each copy that is held has the bytes that were
-- reserved for the number.
pub record HasOutlasted (w : World) (bytes : SlotBytes) (m : MapState) (page number : ℕ) : Type 0 where
  pub version : Version
  pub is : get m.versions page ≡ Some version
  pub newer : number ≤ version.seq.0
  pub die : ℕ
  pub slot : ℕ
  pub held : HoldsPayload bytes m page version die slot (w.payloads page version.seq.0)
  pub each : (d s : ℕ) (payload : List ℕ) → HoldsPayload bytes m page version d s payload → payload ≡ w.payloads page version.seq.0

-- A page that was written as the array was mounted has a holder that is mounted as live again.
abbrev pub AreHoldersLive : World → World → MapState → Type 0
AreHoldersLive first w m = (page : ℕ) (version : Version) → get first.core.page_map.versions page ≡ Some version
    → (die : ℕ) × (holds_page w.core.page_map page die ≡ true) × (is_live m die ≡ true)
