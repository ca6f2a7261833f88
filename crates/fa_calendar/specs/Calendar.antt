-- What contracts see of a calendar: the current round, which rounds of which dies are booked, and the window of each die.
use Rattle.std.specs.Prelude.{◌≡◌, ℕ, Bool, not, ◌&&◌, ◌||◌, List, Option}
use Rattle.fa_types.specs.Windows.{is_in_window}
use Rattle.fa_types.specs.declared.window.Window.{Window}
use Rattle.fa_batch_terms.specs.declared.place.Place.{Place}
use Rattle.fa_calendar.specs.declared.calendar.Calendar.{Calendar}
use Rattle.fa_calendar.specs.Dies.{booked_by, window_by, is_at}

module _ {A : Type 0} where
  abbrev pub current_of : Calendar A → ℕ
  current_of calendar = calendar.current

  abbrev pub is_booked : Calendar A → ℕ → ℕ → Bool
  is_booked calendar die round = booked_by calendar.dies.items die round

  abbrev pub window_of : Calendar A → ℕ → Option Window
  window_of calendar die = window_by calendar.dies.items die

  -- A round of a die is closed where it is booked or in the die's window.
  abbrev pub is_closed : Calendar A → ℕ → ℕ → Bool
  is_closed calendar die round = is_booked calendar die round || is_in_window (window_of calendar die) round

  -- whether a round is closed where these places are not booked
  abbrev pub is_closed_without : Calendar A → List Place → ℕ → ℕ → Bool
  is_closed_without calendar places die round =
      (is_booked calendar die round && not (is_at places die round)) || is_in_window (window_of calendar die) round

  -- whether a round is closed once some places are released and others booked
  abbrev pub is_closed_with : Calendar A → List Place → List Place → ℕ → ℕ → Bool
  is_closed_with calendar old new die round = is_closed_without calendar old die round || is_at new die round

  -- nothing has changed that contracts see
  pub record IsUnchanged (old new : Calendar A) : Type 0 where
    pub current : current_of new ≡ current_of old
    pub booked : (die round : ℕ) → is_booked new die round ≡ is_booked old die round
    pub windows : (die : ℕ) → window_of new die ≡ window_of old die
