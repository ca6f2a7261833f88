-- Which copies of a page there are, and which dies hold it. A copy is current where its die is live and its number
-- is the page's.
use Rattle.std.specs.Prelude.{ℕ, Bool, true, false, ◌==◌, ◌&&◌, List, Option, Some, is_some, length, find, filter}
use Rattle.std.specs.FinMap.{get}
use Rattle.fa_machine.specs.declared.places.Used.{Used}
use Rattle.fa_machine.specs.declared.places.Used.TheVariants.{Reserved, Held, Stale}
use Rattle.fa_machine.specs.declared.places.Version.{Version}
use Rattle.fa_machine.specs.State.{MapState, dies_of, slots_of, is_live, used_at}

abbrev pub is_reserved_slot : Option Used → Bool
is_reserved_slot (Some Reserved) = true
is_reserved_slot used = false

abbrev pub is_held_slot : Option Used → Bool
is_held_slot (Some (Held page version)) = true
is_held_slot used = false

abbrev pub is_stale_slot : Option Used → Bool
is_stale_slot (Some Stale) = true
is_stale_slot used = false

-- whether a slot in this state holds the page with the number that it has, if it was ever written
abbrev pub holds_last : ℕ → Option Version → Option Used → Bool
holds_last page (Some number) (Some (Held p version)) = p.0 == page && version.seq.0 == number.seq.0
holds_last page number used = false

-- whether a current copy of the page stands in the slot
abbrev pub is_current : MapState → ℕ → ℕ → ℕ → Bool
is_current m page die slot = is_live m die && holds_last page (get m.versions page) (used_at m die slot)

-- the slot of the current copy of a page on a die
abbrev pub copy_on : MapState → ℕ → ℕ → Option ℕ
copy_on m page die = find (is_current m page die) (slots_of m)

abbrev pub holds_page : MapState → ℕ → ℕ → Bool
holds_page m page die = is_some (copy_on m page die)

-- the live dies with a current copy of the page
abbrev pub holders : MapState → ℕ → List ℕ
holders m page = filter (holds_page m page) (dies_of m)

-- the page was written, and no live die has a current copy
abbrev pub is_lost : MapState → ℕ → Bool
is_lost m page = is_some (get m.versions page) && length (holders m page) == 0
