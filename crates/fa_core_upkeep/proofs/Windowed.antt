-- The closed rounds of a live die.
use Rattle.fa_machine.specs.Rounds.{is_closed, is_taken}
use Rattle.fa_machine.specs.State.{CalendarState, MapState, is_live}
use Rattle.std.proofs.Common.{sym, true, ℕ, ◌≡◌}
use Rattle.std.specs.Prelude.{not, ◌||◌}

-- those that are taken
pub closed_taken : (m : MapState) (calendar : CalendarState) (die : ℕ) → is_live m die ≡ true → is_taken calendar die
    ≡ is_closed m calendar die
closed_taken m calendar die live = sym (λ i round. not (live i) || is_taken calendar die round)
