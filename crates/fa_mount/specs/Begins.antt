-- The array over what was mounted, and what holds of what is mounted so that there is one.
use Rattle.std.specs.Prelude.{◌≡◌, ℕ, ◌+◌, ◌^◌, ◌<◌, ◌≤◌, ◌⊎◌, true, false, List, length, Option, Some, None}
use Rattle.std.specs.FinMap.{contains_key, get}
use Rattle.fa_core_state.specs.Begun.{begun}
use Rattle.fa_mount_headers.specs.declared.judging.Standing.{Standing}
use Rattle.fa_machine.specs.Maps.{Numbers}
use Rattle.fa_machine.specs.State.{Core, MapState, is_live}
use Rattle.fa_machine.specs.declared.places.Version.{Version}
use Rattle.fa_mount_scan.specs.MountedWorld.{is_spare_of}
use Rattle.fa_types.specs.Geometry.{AreCopies}

-- exactly the dies that stand as spares
abbrev pub AreSpares : List Standing → Numbers → Type 0
AreSpares dies spares = (die : ℕ) → contains_key spares die ≡ is_spare_of dies die

-- the number of a page's last write: 0 where it was never written
abbrev pub number_in : Option Version → ℕ
number_in None = 0
number_in (Some version) = version.seq.0

-- The greatest number of a page: no page has a greater one, and some page has it, or it is 0.
pub record IsGreatestNumber (m : MapState) (last : ℕ) : Type 0 where
  pub above : (page : ℕ) (version : Version) → get m.versions page ≡ Some version → version.seq.0 ≤ last
  pub given : (last ≡ 0) ⊎ ((page : ℕ) × (version : Version) × (get m.versions page ≡ Some version) × (version.seq.0 ≡ last))

-- The array's state over a mounted map, where this is the greatest epoch of the headers.
pub record IsBegun (copies : ℕ) (m : MapState) (dies : List Standing) (epoch : ℕ) (core : Core) : Type 0 where
  pub spares : Numbers
  pub are_spares : AreSpares dies spares
  pub last : ℕ
  pub is_last : IsGreatestNumber m last
  pub is : core ≡ begun copies m (epoch + 1) spares last

-- Of what is mounted: each die has a standing and no spare is live, the numbers of pages are within their limits, and there is room
-- for the copies of each page.
pub record MayBegin (copies : ℕ) (dies : List Standing) (m : MapState) : Type 0 where
  pub all : length dies ≡ m.geometry.dies
  pub apart : (die : ℕ) → is_spare_of dies die ≡ true → is_live m die ≡ false
  pub numbers : (page : ℕ) (version : Version) → get m.versions page ≡ Some version → (1 ≤ version.seq.0) × (version.seq.0 < 2 ^ 62)
  pub room : let g = m.geometry in AreCopies copies g.dies g.spares g.blocks g.slots g.pages
