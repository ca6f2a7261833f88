-- What the tables of a page map show.
use Rattle.std.specs.Prelude.{◌≡◌, ℕ, ◌<◌, ◌==◌, Bool, true, false, List, Option, Some, None, is_some, map, slice_index_or}
use Rattle.fa_types.specs.declared.geometry.Geometry.{Geometry}
use Rattle.fa_machine.specs.declared.places.Used.{Used}
use Rattle.fa_machine.specs.declared.places.Used.TheVariants.{Reserved as ReservedSlot, Held, Stale as StaleSlot}
use Rattle.fa_machine.specs.declared.places.Version.{Version}
use Rattle.fa_machine.specs.State.{MapState}
use Rattle.fa_map.specs.Chains.{entry_of}
use Rattle.fa_map_calls.specs.Plain.{IsPlain, die_slots}
use Rattle.fa_map.specs.declared.entries.Entry.{Entry}
use Rattle.fa_map.specs.declared.entries.Entry.TheVariants.{Erased, Reserved, Current, Stale}

abbrev pub version_at : List (Option Version) → ℕ → Option Version
version_at versions page = slice_index_or versions page None

-- a copy of a page's last write
abbrev pub held : ℕ → Option Version → Option Used
held page None = None
held page (Some version) = Some (Held (record { 0 = page }) version)

-- the state of a slot that an entry stands for
abbrev pub used_of : List (Option Version) → Entry → Option Used
used_of versions Erased = None
used_of versions Reserved = Some ReservedSlot
used_of versions (Current page) = held page (version_at versions page)
used_of versions Stale = Some StaleSlot

-- whether the last write of a page has the number of this one
abbrev pub is_number : Version → Option Version → Bool
is_number version None = false
is_number version (Some last) = last.seq.0 == version.seq.0

-- What the tables show is the state, and each page that a slot holds was written.
pub record IsShown (m : MapState) (g : Geometry) (on : List Bool) (count : ℕ) (versions : List (Option Version))
    (entries : List Entry) : Type 0 where
  pub plain : IsPlain m g on count versions (map (used_of versions) entries)
  pub known : (die slot page : ℕ) → slot < die_slots g → entry_of entries (die_slots g) die slot ≡ Current page
      → is_some (version_at versions page) ≡ true
