-- What a cut leaves of a page.
use Rattle.std.specs.Prelude.{◌≡◌, ℕ, ◌<◌, ◌≤◌, true, List}
use Rattle.fa_machine.specs.declared.places.Version.{Version}
use Rattle.fa_machine.specs.Cells.{Cell, Sealed}
use Rattle.fa_machine.specs.World.{World}
use Rattle.fa_crash.specs.Flushed.{is_of_array, slots_of}

-- A die has a good cell of the page with this number or a greater one.
pub record IsLeftOn (w : World) (cells : ℕ → ℕ → Cell) (page number die : ℕ) : Type 0 where
  pub inside_page : page < w.core.page_map.geometry.pages
  pub slot : ℕ
  pub inside : slot < slots_of w.core
  pub version : Version
  pub payload : List ℕ
  pub stands : cells die slot ≡ Sealed page version die slot payload
  pub newer : number ≤ version.seq.0

-- Each good cell of the page with such a number, on a die of the array, has the bytes that were reserved for it.
abbrev pub AreReserved : (first w : World) → (ℕ → ℕ → Cell) → (page number : ℕ) → Type 0
AreReserved first w cells page number = (die slot : ℕ) (version : Version) (payload : List ℕ) → is_of_array first die ≡ true
    → slot < slots_of w.core → cells die slot ≡ Sealed page version die slot payload → number ≤ version.seq.0
    → payload ≡ w.payloads page version.seq.0
