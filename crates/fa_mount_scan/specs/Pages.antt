-- The pages of an array that were ever written, and where their current copies stand, as a map of it shows them.
use Rattle.std.specs.Prelude.{ℕ, ◌+◌, ◌-◌, List, [], ◌∷◌, Option, Some, None, option_map}
use Rattle.std.specs.FinMap.{get}
use Rattle.std.specs.List.{filter_map, range_with_len}
use Rattle.fa_types.specs.declared.numbers.Die.{Die}
use Rattle.fa_types.specs.declared.numbers.Page.{Page}
use Rattle.fa_types.specs.declared.numbers.Slot.{Slot}
use Rattle.fa_machine.specs.declared.places.Version.{Version}
use Rattle.fa_machine.specs.Copies.{copy_on}
use Rattle.fa_machine.specs.Maps.{below}
use Rattle.fa_machine.specs.State.{MapState, dies_of}

-- a page that was written, its last write, and the places of its current copies
pub record Written : Type 0 where
  pub page : Page
  pub version : Version
  pub places : List (Die × Slot)

-- a die and a slot, by their numbers
abbrev pub place_at : ℕ → ℕ → Die × Slot
place_at die slot = (record { 0 = die }, record { 0 = slot })

-- the place of the current copy of a page on a die, if the die holds the page
abbrev pub place_on : MapState → ℕ → ℕ → Option (Die × Slot)
place_on m page die = option_map (place_at die) (copy_on m page die)

-- the places of the current copies of a page, the dies rising
abbrev pub places_of : MapState → ℕ → List (Die × Slot)
places_of m page = filter_map (place_on m page) (dies_of m)

-- a page by its number, if it was ever written
abbrev pub written_at : MapState → ℕ → Option Written
written_at m page =
    option_map (λ version. record { page = record { 0 = page }; version = version; places = places_of m page }) (get m.versions page)

-- all pages that were ever written, the pages rising
abbrev pub written_pages : MapState → List Written
written_pages m = filter_map (written_at m) (below m.geometry.pages)

-- what a function gives of the numbers from one on that are below another
abbrev pub given_from : {A : Type 0} → (ℕ → Option A) → ℕ → ℕ → List A
given_from f first end = filter_map f (range_with_len first (end - first))

-- those pages from one on, and those places from a die on
abbrev pub written_from : MapState → ℕ → List Written
written_from m page = given_from (written_at m) page m.geometry.pages

abbrev pub places_from : MapState → ℕ → ℕ → List (Die × Slot)
places_from m page die = given_from (place_on m page) die m.geometry.dies

-- a place of a page and those behind it, if there is one more
abbrev pub places_left : MapState → ℕ → Option (Die × Slot) → List (Die × Slot)
places_left m page None = []
places_left m page (Some place) = place ∷ places_from m page (place.0.0 + 1)
