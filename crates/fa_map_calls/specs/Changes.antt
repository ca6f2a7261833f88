-- What the calls that change a page map do to it.
use Rattle.std.specs.Prelude.{◌≡◌, ℕ, ◌*◌, ◌<◌, true, false, not, ◌==◌, ◌&&◌, ◌||◌, nat_lt, if◌then◌else◌, Option, Some, None}
use Rattle.std.specs.FinMap.{empty, get, insert, remove}
use Rattle.fa_types.specs.declared.geometry.Geometry.{Geometry}
use Rattle.fa_types.specs.declared.numbers.Page.{Page}
use Rattle.fa_machine.specs.declared.places.Used.{Used}
use Rattle.fa_machine.specs.declared.places.Used.TheVariants.{Reserved, Held, Stale}
use Rattle.fa_machine.specs.declared.places.Version.{Version}
use Rattle.fa_machine.specs.Collecting.{is_in_block}
use Rattle.fa_machine.specs.Copies.{holds_page, is_held_slot, is_reserved_slot}
use Rattle.fa_machine.specs.Maps.{change, keep}
use Rattle.fa_machine.specs.Placement.{lowest_erased, room}
use Rattle.fa_machine.specs.State.{MapState, is_live, used_at}
use Rattle.fa_machine.specs.Writing.{without_page}

-- a map of dies none of which is live, and of pages none of which was written
abbrev pub new_map : Geometry → MapState
new_map geometry = record { geometry = geometry; live = empty; versions = empty; used = empty }

-- a slot in a state
abbrev pub with_used : ℕ → ℕ → Used → MapState → MapState
with_used die slot used m = record m { used = insert m.used (die, slot) used }

-- The slot that a writer takes: the lowest that is erased. The last block's worth of erased slots is the collector's.
abbrev pub writers_slot : MapState → ℕ → Option ℕ
writers_slot m die = if nat_lt 0 (room m die) then lowest_erased m die else None

-- the map after a slot was taken, where there was one
abbrev pub taken : ℕ → Option ℕ → MapState → MapState
taken die (Some slot) m = with_used die slot Reserved m
taken die None m = m

-- a slot that holds another write of the page is stale
abbrev pub outdated : ℕ → Version → Used → Used
outdated page version (Held p v) = if p.0 == page && not (v.seq.0 == version.seq.0) then Stale else Held p v
outdated page version used = used

-- The slot holds the page's last write, which has this number. Copies of its other writes are stale.
abbrev pub made_current : Page → Version → ℕ → ℕ → MapState → MapState
made_current page version die slot m = with_used die slot (Held page version) (record m {
  versions = insert m.versions page.0 version;
  used = change (λ place used. outdated page.0 version used) m.used;
})

-- the page's last write is this one, and each copy that it had is stale
abbrev pub renewed : ℕ → Version → MapState → MapState
renewed page version m = record m { versions = insert m.versions page version; used = change (λ place used. without_page page used) m.used }

-- a die is live, and none of its slots is used
abbrev pub brought_in : ℕ → MapState → MapState
brought_in die m = record m { live = insert m.live die tt }

-- a die is not live, and nothing is known of its slots
abbrev pub dropped : ℕ → MapState → MapState
dropped die m = record m { live = remove m.live die; used = keep (λ place used. not (place.0 == die)) m.used }

-- the slots of a block are erased, save those that are reserved
abbrev pub without_block : ℕ → ℕ → MapState → MapState
without_block die block m = record m {
  used = keep (λ place used. not (place.0 == die && is_in_block m block place.1) || is_reserved_slot (Some used)) m.used;
}

-- A slot may come to hold a write of a page: it holds none so far, no other slot of the die holds that write, and the
-- page's number goes with one kind.
pub record MayHold (m : MapState) (page : Page) (version : Version) (die slot : ℕ) : Type 0 where
  pub page_fits : page.0 < m.geometry.pages
  pub slot_fits : slot < m.geometry.blocks * m.geometry.slots
  pub live : is_live m die ≡ true
  pub free : is_held_slot (used_at m die slot) ≡ false
  pub once : (other : ℕ) (v : Version) → used_at m die other ≡ Some (Held page v) → (v.seq.0 == version.seq.0) ≡ false
  pub one_kind : (v : Version) → get m.versions page.0 ≡ Some v → (v.seq.0 == version.seq.0) ≡ true → v ≡ version

-- A slot may come to hold the page's last write: the die is live, the slot holds no copy so far, and no other slot of the die
-- holds the page.
pub record MayKeep (m : MapState) (page : Page) (version : Version) (die slot : ℕ) : Type 0 where
  pub page_fits : page.0 < m.geometry.pages
  pub slot_fits : slot < m.geometry.blocks * m.geometry.slots
  pub live : is_live m die ≡ true
  pub last : get m.versions page.0 ≡ Some version
  pub free : is_held_slot (used_at m die slot) ≡ false
  pub once : holds_page m page.0 die ≡ false
