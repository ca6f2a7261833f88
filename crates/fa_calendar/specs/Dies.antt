-- The calendars of all dies, by their numbers.
use Rattle.std.specs.Prelude.{◌≡◌, ℕ, ◌<◌, ◌≤◌, Bool, true, false, not, ◌&&◌, ◌||◌, ◌==◌, List, [], length, slice_index_or, Option, None}
use Rattle.std.specs.FinMap.{contains_key}
use Rattle.std.specs.List.{list_any}
use Rattle.fa_types.specs.Open.{rounds_that, max_closed, FewClosed}
use Rattle.fa_types.specs.Windows.{is_in_window}
use Rattle.fa_types.specs.declared.window.Window.{Window}
use Rattle.fa_batch_terms.specs.declared.place.Place.{Place}
use Rattle.fa_closed.specs.Runs.{is_covered}
use Rattle.fa_set.specs.Members.{Numbers}
use Rattle.fa_calendar.specs.DieState.{DieState, HasRoom}

abbrev pub no_rounds : DieState
no_rounds = record { spans = []; window = None; room = 0 }

abbrev pub state_of : List DieState → ℕ → DieState
state_of dies die = slice_index_or dies die no_rounds

abbrev pub window_by : List DieState → ℕ → Option Window
window_by dies die = (state_of dies die).window

abbrev pub room_by : List DieState → ℕ → ℕ
room_by dies die = (state_of dies die).room

-- whether a die's spans have a round
abbrev pub closed_by : List DieState → ℕ → ℕ → Bool
closed_by dies die round = is_covered (state_of dies die).spans round

-- a round that is closed is booked where it is in no window
abbrev pub booked_by : List DieState → ℕ → ℕ → Bool
booked_by dies die round = closed_by dies die round && not (is_in_window (window_by dies die) round)

abbrev pub taken_by : List DieState → ℕ → ℕ → Bool
taken_by dies die round = booked_by dies die round || is_in_window (window_by dies die) round

-- whether a place is at a die in a round, and whether one of some is
abbrev pub is_one : Place → ℕ → ℕ → Bool
is_one place die round = place.die.0 == die && place.round.0 == round

abbrev pub is_at : List Place → ℕ → ℕ → Bool
is_at places die round = list_any (λ x. is_one x die round) places

-- each die has room for its closed rounds
abbrev pub AllHaveRoom : List DieState → Type 0
AllHaveRoom dies = (die : ℕ) → HasRoom (state_of dies die)

-- each die has room for these rounds, as far as the limit allows it
pub record HasRoomFor (dies : List DieState) (closed : ℕ → ℕ → Bool) : Type 0 where
  pub few : (die n : ℕ) → rounds_that (closed die) 0 n ≤ max_closed
  pub kept : (die n : ℕ) → rounds_that (closed die) 0 n ≤ room_by dies die

-- what stays where rounds are closed or opened
pub record KeepsDies (old new : List DieState) : Type 0 where
  pub long : length new ≡ length old
  pub windows : (die : ℕ) → window_by new die ≡ window_by old die
  pub rooms : (die : ℕ) → room_by old die ≤ room_by new die
  pub roomy : AllHaveRoom new

-- Nothing is closed on the dies that are not among these, and they have no window.
pub record AreIdle (busy : Numbers) (dies : List DieState) : Type 0 where
  pub closed : (die round : ℕ) → contains_key busy die ≡ false → closed_by dies die round ≡ false
  pub windows : (die : ℕ) → contains_key busy die ≡ false → window_by dies die ≡ None

-- What holds of the dies of each calendar: nothing is closed before the current round, and from it on the windows are.
pub record IsCalendar (current : ℕ) (dies : List DieState) : Type 0 where
  pub long : length dies ≡ 256
  pub roomy : AllHaveRoom dies
  pub past : (die round : ℕ) → round < current → closed_by dies die round ≡ false
  pub held : (die round : ℕ) → current ≤ round → is_in_window (window_by dies die) round ≡ true → closed_by dies die round ≡ true
  pub few : FewClosed current (taken_by dies)
