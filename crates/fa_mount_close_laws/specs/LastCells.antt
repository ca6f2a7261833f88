-- Which cells of a world are of a page's last write, and which of an older one.
use Rattle.std.specs.Prelude.{◌≡◌, ℕ, ◌*◌, ◌<◌, ◌≤◌, Bool, true, List, Option, Some, None, is_some}
use Rattle.std.specs.FinMap.{get}
use Rattle.fa_machine.specs.Cells.{Sealed}
use Rattle.fa_machine.specs.Copies.{holds_page}
use Rattle.fa_machine.specs.State.{is_live}
use Rattle.fa_machine.specs.World.{World, plain_page}
use Rattle.fa_machine.specs.declared.places.Version.{Version}

-- A good cell: in a slot of a die, sealed for this very place.
pub record HasCell (w : World) (page : ℕ) (version : Version) (payload : List ℕ) (die slot : ℕ) : Type 0 where
  pub inside : slot < w.core.page_map.geometry.blocks * w.core.page_map.geometry.slots
  pub sealed : (w.images die).seen slot ≡ Sealed page version die slot payload

-- A write is its page's last one, with the bytes that were reserved for it, or has a lower number than that.
pub record IsOfLast (last : Option Version) (reserved : ℕ → List ℕ) (version : Version) (payload : List ℕ) : Type 0 where
  pub write : Version
  pub is_last : last ≡ Some write
  pub older : version.seq.0 ≤ write.seq.0
  pub same : version.seq.0 ≡ write.seq.0 → (version ≡ write) × (payload ≡ reserved version.seq.0)

-- Each good cell of a page on a live die is of the page's last write or of an older one.
abbrev pub AreOfLast : World → Type 0
AreOfLast w = (page die slot : ℕ) (version : Version) (payload : List ℕ) → page < w.core.page_map.geometry.pages
    → is_live w.core.page_map die ≡ true → HasCell w page version payload die slot
    → IsOfLast (get w.core.page_map.versions page) (w.payloads page) version payload

-- A page's last write by the good cells on some dies: one of them has it, none has a greater number, and each with its number
-- has its kind and this payload.
pub record IsLastCell (w : World) (these : ℕ → Bool) (page : ℕ) (version : Version) (payload : List ℕ) : Type 0 where
  pub die : ℕ
  pub slot : ℕ
  pub here : these die ≡ true
  pub cell : HasCell w page version payload die slot
  pub greatest : (v : Version) (bytes : List ℕ) (d s : ℕ) → these d ≡ true → HasCell w page v bytes d s → v.seq.0 ≤ version.seq.0
  pub same : (v : Version) (bytes : List ℕ) (d s : ℕ) → these d ≡ true → HasCell w page v bytes d s → v.seq.0 ≡ version.seq.0
      → (v ≡ version) × (bytes ≡ payload)

-- what the good cells on some dies say of a page: its last write with the plain array's page, and nothing where it was never written
abbrev pub IsLastOn : World → (ℕ → Bool) → ℕ → Option Version → Type 0
IsLastOn w these page None =
    (version : Version) (payload : List ℕ) (die slot : ℕ) → these die ≡ true → ¬ (HasCell w page version payload die slot)
IsLastOn w these page (Some version) = IsLastCell w these page version (plain_page w page)

-- live dies on which each page that was written is held
pub record HoldAll (w : World) (these : ℕ → Bool) : Type 0 where
  pub live : (die : ℕ) → these die ≡ true → is_live w.core.page_map die ≡ true
  pub hold : (page : ℕ) → is_some (get w.core.page_map.versions page) ≡ true
      → (die : ℕ) × (these die ≡ true) × (holds_page w.core.page_map page die ≡ true)
