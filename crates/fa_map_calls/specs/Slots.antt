-- What a page map shows of a slot and of a block, and what is true of every page map.
use Rattle.std.specs.Prelude.{◌≡◌, ℕ, ◌-◌, ◌*◌, ◌<◌, true, Option, Some, None, is_some, find}
use Rattle.std.specs.List.{range_with_len}
use Rattle.std.specs.FinMap.{get}
use Rattle.fa_machine.specs.declared.places.Used.{Used}
use Rattle.fa_machine.specs.declared.places.Used.TheVariants.{Reserved as ReservedSlot, Held, Stale as StaleSlot}
use Rattle.fa_machine.specs.declared.places.Version.{Version}
use Rattle.fa_machine.specs.Collecting.{count_in}
use Rattle.fa_machine.specs.Copies.{holds_page, is_held_slot, is_reserved_slot, is_stale_slot}
use Rattle.fa_machine.specs.State.{MapState, is_live, used_at}
use Rattle.fa_types.specs.declared.numbers.Page.{Page}
use Rattle.fa_map_calls.specs.declared.slots.BlockCounts.{BlockCounts}
use Rattle.fa_map_calls.specs.declared.slots.SlotState.{SlotState}
use Rattle.fa_map_calls.specs.declared.slots.SlotState.TheVariants.{Erased, Reserved, Current, Stale}
use Rattle.std.specs.Prelude.{is_none}

-- the state of a slot, without what it holds
abbrev pub state_of : Option Used → SlotState
state_of None = Erased
state_of (Some ReservedSlot) = Reserved
state_of (Some (Held page version)) = Current
state_of (Some StaleSlot) = Stale

-- the page that a slot holds, and the write of it
abbrev pub copy_in : Option Used → Option (Page × Version)
copy_in (Some (Held page version)) = Some (page, version)
copy_in used = None

-- how many slots of a block are in each state
abbrev pub AreCounts : MapState → ℕ → ℕ → BlockCounts → Type 0
AreCounts m die block counts =
    (counts.erased ≡ count_in m die block is_none) × (counts.reserved ≡ count_in m die block is_reserved_slot)
    × (counts.current ≡ count_in m die block is_held_slot) × (counts.stale ≡ count_in m die block is_stale_slot)

-- What is true of every page map.
pub record IsPageMap (m : MapState) : Type 0 where
  pub live : (die : ℕ) → is_live m die ≡ true → die < m.geometry.dies
  pub written : (page : ℕ) → is_some (get m.versions page) ≡ true → page < m.geometry.pages
  -- only slots of live dies are used
  pub used : (die slot : ℕ) → is_some (used_at m die slot) ≡ true
      → (is_live m die ≡ true) × (slot < m.geometry.blocks * m.geometry.slots)
  -- what a slot holds is the last write of its page
  pub last : (die slot : ℕ) (page : Page) (version : Version) → used_at m die slot ≡ Some (Held page version)
      → get m.versions page.0 ≡ Some version
  -- a die holds a page once
  pub once : (die slot other : ℕ) (page : Page) (version : Version) → used_at m die slot ≡ Some (Held page version)
      → used_at m die other ≡ Some (Held page version) → slot ≡ other

-- the lowest die from one on with a current copy of the page
abbrev pub first_holder : MapState → ℕ → ℕ → Option ℕ
first_holder m page from = find (holds_page m page) (range_with_len from (m.geometry.dies - from))
