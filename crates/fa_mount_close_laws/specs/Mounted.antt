-- What is mounted of the dies of a world.
use Rattle.std.specs.Prelude.{◌≡◌, ℕ, ◌*◌, ◌<◌, Bool, true, List, Some}
use Rattle.std.specs.FinMap.{get}
use Rattle.fa_machine.specs.State.{MapState, is_live}
use Rattle.fa_machine.specs.World.{World}
use Rattle.fa_machine.specs.declared.places.Version.{Version}
use Rattle.fa_mount_scan.specs.ContentCells.{IsCellOf, tag_of}
use Rattle.fa_mount_scan.specs.MountedWorld.{SlotBytes}
use Rattle.fa_tag.specs.SlotGrammar.{IsSlot}

-- The bytes in the slots of some dies are what the world sees there.
abbrev pub AreCellsOf : World → (ℕ → Bool) → SlotBytes → Type 0
AreCellsOf w these bytes = (die slot : ℕ) → these die ≡ true → slot < w.core.page_map.geometry.blocks * w.core.page_map.geometry.slots
    → IsCellOf (bytes die slot) ((w.images die).seen slot)

-- a slot of a live die that has a copy of a page with the number of its last write
pub record IsLastCopy (bytes : SlotBytes) (m : MapState) (page : ℕ) (last version : Version) (payload : List ℕ)
    (die slot : ℕ) : Type 0 where
  pub is_last : get m.versions page ≡ Some last
  pub numbered : version.seq.0 ≡ last.seq.0
  pub live : is_live m die ≡ true
  pub inside : slot < m.geometry.blocks * m.geometry.slots
  pub sealed : IsSlot (tag_of page version die slot) payload (bytes die slot)

-- The copies of a page with the number of its last write are of one kind and have one payload, also those that are not current.
abbrev pub LastCopiesAgree : SlotBytes → MapState → Type 0
LastCopiesAgree bytes m = (page : ℕ) (last version other : Version) (one two : List ℕ) (die slot d s : ℕ)
    → IsLastCopy bytes m page last version one die slot → IsLastCopy bytes m page last other two d s → (version ≡ other) × (one ≡ two)
