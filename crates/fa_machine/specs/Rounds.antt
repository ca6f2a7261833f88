-- Which rounds of a die are closed, and when its calendar has room.
use Rattle.std.specs.Prelude.{ℕ, ◌+◌, ◌≤◌, Bool, not, ◌==◌, ◌&&◌, ◌||◌, List}
use Rattle.std.specs.List.{list_any}
use Rattle.std.specs.FinMap.{get, contains_key}
use Rattle.fa_types.specs.Open.{rounds_that, max_closed}
use Rattle.fa_types.specs.Windows.{is_in_window}
use Rattle.fa_batch_terms.specs.declared.place.Place.{Place}
use Rattle.fa_machine.specs.State.{MapState, CalendarState, is_live}

-- A round of a die is closed where it is booked or in the die's window. That is all that a calendar knows.
abbrev pub is_taken : CalendarState → ℕ → ℕ → Bool
is_taken calendar die round = contains_key calendar.bookings (die, round) || is_in_window (get calendar.windows die) round

-- no round of a die that is not live is open
abbrev pub is_closed : MapState → CalendarState → ℕ → ℕ → Bool
is_closed m calendar die round = not (is_live m die) || is_taken calendar die round

-- whether a round of a die is closed once the places of a plan are booked
abbrev pub is_taken_with : CalendarState → List Place → ℕ → ℕ → Bool
is_taken_with calendar places die round = is_taken calendar die round || list_any (λ x. x.die.0 == die && x.round.0 == round) places

-- The entries of a die are its closed rounds from the current one on. With so many more they are no more than the most.
abbrev pub HasRoomFor : CalendarState → ℕ → ℕ → Type 0
HasRoomFor calendar die count = (n : ℕ) → rounds_that (is_taken calendar die) calendar.round n + count ≤ max_closed
