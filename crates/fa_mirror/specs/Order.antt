-- The order of a page as it is looked through, one look after another: its homes, then all dies falling, where a home gives
-- nothing.
use Rattle.std.specs.Prelude.{ℕ, ◌-◌, Bool, not, ◌&&◌, if◌then◌else◌, List, ◌++◌, Option, Some, None, filter, map, reverse, take}
use Rattle.fa_types.specs.declared.numbers.Die.{Die}
use Rattle.fa_machine.specs.Copies.{holds_page}
use Rattle.fa_machine.specs.Maps.{below, is_one_of}
use Rattle.fa_machine.specs.Placement.{copies_asked, has_room, homes, order_of}
use Rattle.fa_machine.specs.State.{MapState, is_live}

-- the numbers of the dies
abbrev pub numbers_of : List Die → List ℕ
numbers_of dies = map (λ (die : Die). die.0) dies

-- as many of the homes as there are copies
abbrev pub first_of : ℕ → List Die → List ℕ
first_of copies homes = take copies (numbers_of homes)

-- the homes of a page on the dies in use
abbrev pub homes_in_use : ℕ → MapState → ℕ → List ℕ
homes_in_use copies m page = homes copies (m.geometry.dies - m.geometry.spares) page

-- the dies that are given from first ones on
abbrev pub looks_from : List ℕ → ℕ → List (Option ℕ)
looks_from first dies = map Some first ++ map (λ die. if is_one_of first die then None else Some die) (reverse (below dies))

abbrev pub looks : ℕ → List Die → ℕ → List (Option ℕ)
looks copies homes dies = looks_from (first_of copies homes) dies

-- whether one more copy of the page may go to the die
abbrev pub takes_copy : MapState → ℕ → ℕ → Bool
takes_copy m page die = has_room m die && not (holds_page m page die)

-- the dies that a write of the page goes to where each has room: the first live ones in its order
abbrev pub first_dies : ℕ → MapState → ℕ → List ℕ
first_dies copies m page = take (copies_asked copies m) (filter (is_live m) (order_of copies m page))
