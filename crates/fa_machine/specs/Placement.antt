-- Where copies go: the homes of a page and its order of dies, the room of a die, the targets of a write, thin
-- pages, and where one more copy goes. All of it is told of the number of copies that a page is to have, and of the page map.
use Rattle.std.specs.Prelude.{ℕ, ◌+◌, ◌-◌, ◌/◌, ◌%◌, min, Bool, not, ◌==◌, ◌&&◌, nat_lt, if◌then◌else◌, List, [], ◌∷◌, ◌++◌}
use Rattle.std.specs.Prelude.{Option, is_none, length, take, reverse, find, filter, count_by}
use Rattle.std.specs.FinMap.{len}
use Rattle.fa_machine.specs.Copies.{holds_page, holders}
use Rattle.fa_machine.specs.Maps.{is_one_of}
use Rattle.fa_machine.specs.State.{MapState, dies_of, slots_of, is_live, used_at}

-- The homes of a page on m dies. The third is the die behind the second, and the one behind that where it is the first.
abbrev pub home_1 : ℕ → ℕ → ℕ
home_1 m page = page % m

abbrev pub home_2 : ℕ → ℕ → ℕ
home_2 m page = (home_1 m page + 1 + (page / m) % (m - 1)) % m

abbrev pub home_3 : ℕ → ℕ → ℕ
home_3 m page = let next = (home_2 m page + 1) % m in if next == home_1 m page then (next + 1) % m else next

abbrev pub homes : ℕ → ℕ → ℕ → List ℕ
homes copies m page = take copies (home_1 m page ∷ home_2 m page ∷ home_3 m page ∷ [])

-- The order of a page: its homes among the dies in use, then the other dies falling.
abbrev pub order_of : ℕ → MapState → ℕ → List ℕ
order_of copies m page =
    let first = homes copies (m.geometry.dies - m.geometry.spares) page in
    first ++ filter (λ die. not (is_one_of first die)) (reverse (dies_of m))

abbrev pub is_erased_slot : MapState → ℕ → ℕ → Bool
is_erased_slot m die slot = is_none (used_at m die slot)

-- how many slots of a die are erased
abbrev pub free : MapState → ℕ → ℕ
free m die = count_by (is_erased_slot m die) (slots_of m)

-- how many of them writes may take: the last block's worth is the collector's
abbrev pub room : MapState → ℕ → ℕ
room m die = free m die - m.geometry.slots

abbrev pub has_room : MapState → ℕ → Bool
has_room m die = is_live m die && nat_lt 0 (room m die)

-- the slot that a write takes: the lowest that is erased
abbrev pub lowest_erased : MapState → ℕ → Option ℕ
lowest_erased m die = find (is_erased_slot m die) (slots_of m)

-- how many copies a write asks for: as many as a page is to have, or as there are live dies
abbrev pub copies_asked : ℕ → MapState → ℕ
copies_asked copies m = min copies (len m.live)

-- The targets of a write: the first live dies with room in the page's order.
abbrev pub targets : ℕ → MapState → ℕ → List ℕ
targets copies m page = take (copies_asked copies m) (filter (has_room m) (order_of copies m page))

-- A page is thin where it has a current copy, fewer than it is to have, and fewer than there are live dies.
abbrev pub is_thin : ℕ → MapState → ℕ → Bool
is_thin copies m page = let n = length (holders m page) in nat_lt 0 n && nat_lt n (copies_asked copies m)

-- where one more copy goes: the first live die with room in the page's order that does not hold it
abbrev pub copy_place : ℕ → MapState → ℕ → Option ℕ
copy_place copies m page = find (λ die. has_room m die && not (holds_page m page die)) (order_of copies m page)
