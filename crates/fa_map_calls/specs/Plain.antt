-- Slots as a list of their states.
use Rattle.std.specs.Prelude.{◌≡◌, ℕ, ◌+◌, ◌*◌, ◌<◌, ◌==◌, Bool, false, List, Option, Some, None, length, slice_index_or, count_by}
use Rattle.std.specs.FinMap.{get, len}
use Rattle.fa_types.specs.declared.geometry.Geometry.{Geometry}
use Rattle.fa_machine.specs.declared.places.Used.{Used}
use Rattle.fa_machine.specs.declared.places.Used.TheVariants.{Held}
use Rattle.fa_machine.specs.declared.places.Version.{Version}
use Rattle.fa_machine.specs.State.{MapState, is_live, used_at}
use Rattle.fa_map_calls.specs.Slots.{IsPageMap}

-- whether a slot holds a copy of the page
abbrev pub holds : ℕ → Option Used → Bool
holds page (Some (Held p version)) = p.0 == page
holds page used = false

-- the state of a slot that stands in a list
abbrev pub slot_at : List (Option Used) → ℕ → Option Used
slot_at used index = slice_index_or used index None

-- how many slots a die has
abbrev pub die_slots : Geometry → ℕ
die_slots geometry = geometry.blocks * geometry.slots

-- Which dies are live, how many these are, the last write of each page and the states of all slots, die by die, are those
-- of the state.
pub record IsPlain (m : MapState) (g : Geometry) (on : List Bool) (count : ℕ) (versions : List (Option Version))
    (table : List (Option Used)) : Type 0 where
  pub whole : IsPageMap m
  pub geometry : m.geometry ≡ g
  pub dies : length on ≡ g.dies
  pub live : (die : ℕ) → is_live m die ≡ slice_index_or on die false
  pub live_dies : count ≡ len m.live
  pub counted : count ≡ count_by (λ b. b) on
  pub pages : length versions ≡ g.pages
  pub numbers : (page : ℕ) → get m.versions page ≡ slice_index_or versions page None
  pub slots : length table ≡ g.dies * die_slots g
  pub used : (die slot : ℕ) → slot < die_slots g → used_at m die slot ≡ slot_at table (die * die_slots g + slot)
