-- The reads of a batch with their dies, laid into rounds.
use Rattle.std.specs.Prelude.{◌≡◌, ℕ, ◌+◌, ◌<◌, ◌≤◌, Bool, ◌==◌, List, length, map, count_by, All, slice_index_or}
use Rattle.fa_types.specs.Open.{IsNthOpen}
use Rattle.fa_batch_terms.specs.Plan.{AreApart, is_earlier_page}
use Rattle.fa_batch_terms.specs.declared.place.Place.{Place}
use Rattle.fa_plan.specs.declared.layout.Seat.{Seat}

-- the page and the die of a place
abbrev pub seat_of : Place → Seat
seat_of x = record { page = x.page; die = x.die }

-- the pages rise
abbrev pub AreRising : List Seat → Type 0
AreRising seats = (i j : ℕ) (d : Seat) → i < j → j < length seats → (slice_index_or seats i d).page.0 < (slice_index_or seats j d).page.0

-- whether a place is at a die
abbrev pub is_at_die : ℕ → Place → Bool
is_at_die die x = x.die.0 == die

-- A page takes the open round of its die that comes after those of the die's lower pages.
pub record IsInTurn (current : ℕ) (closed : ℕ → ℕ → Bool) (places : List Place) (x : Place) : Type 0 where
  pub known : x.die.0 < 256
  pub nth : IsNthOpen current closed x.die.0 (count_by (is_earlier_page x) places + 1) x.round.0
  pub among : count_by (is_earlier_page x) places + 1 ≤ count_by (is_at_die x.die.0) places

-- places for these pages at these dies, each in its turn
pub record IsLaidOut (current : ℕ) (closed : ℕ → ℕ → Bool) (seats : List Seat) (places : List Place) : Type 0 where
  pub same : map seat_of places ≡ seats
  pub turns : All (IsInTurn current closed places) places
  pub apart : AreApart places
