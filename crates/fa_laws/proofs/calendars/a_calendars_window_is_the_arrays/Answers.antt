use Rattle.fa_types.specs.Windows.{IsFirstWindow}
use Rattle.fa_machine.specs.Rounds.{is_closed, is_taken}
use Rattle.fa_machine.specs.State.{CalendarState, MapState, is_live}
use Rattle.std.proofs.Common.{not, sym, subst, true, Bool, ℕ, ◌||◌, ◌≡◌}
use Rattle.fa_laws.proofs.calendars.a_calendars_window_is_the_arrays.Goals as goal

-- of a live die the same rounds are closed
same_closed : (m : MapState) (calendar : CalendarState) (die : ℕ) → is_live m die ≡ true → is_closed m calendar die ≡ is_taken calendar die
same_closed m calendar die alive = λ i round. not (alive i) || is_taken calendar die round

pub returns : goal.returns
returns c m calendar die count first alive =
    let Is : (ℕ → Bool) → Type 0 = λ closed. IsFirstWindow calendar.round closed count first in
    (subst Is (sym (same_closed m calendar die alive)), subst Is (same_closed m calendar die alive))
