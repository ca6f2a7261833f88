-- Dies that were looked at, and those behind them that have neither a booking nor a window.
use Rattle.fa_machine.specs.Collecting.{victim}
use Rattle.fa_machine.specs.State.{Core}
use Rattle.fa_machine.specs.Turning.{is_collecting, is_read_pending, is_round_pending, is_step_pending}
use Rattle.fa_types.specs.Windows.{is_in_window}
use Rattle.std.proofs.Common.{None, ap, arith, false, inl, inr, subst, sym, ℕ, ◌+◌, ◌<◌, ◌≤◌, ◌∙◌, ◌≡◌}
use Rattle.std.proofs.lemmas.Bool.{cases_eq, cases_lt}
use Rattle.std.specs.FinMap.{contains_key, get}
use Rattle.std.specs.Prelude.{is_some, not, ◌&&◌, ◌||◌}

-- what holds of numbers below one, of that one, and of those from the next one on up to another, holds of all below that
pub looked_on : (P : ℕ → Type 0) (from next : ℕ) → ((k : ℕ) → k < from → P k) → P from → ((k : ℕ) → from + 1 ≤ k → k < next → P k)
    → (k : ℕ) → k < next → P k
looked_on P from next before here behind k low =
    elim (cases_lt k from) [
      | inl early ↦ before k early
      | inr late ↦ elim (cases_eq k from) [
        | inl same ↦ subst P (sym same) here
        | inr apart ↦ behind k (omega (arith, late, apart)) low
      ]
    ]

-- nothing of a round is pending at a die that has no booking and no window
pub free_settled : (core : Core) (die : ℕ) → ((round : ℕ) → get core.calendar.bookings (die, round) ≡ None)
    → get core.calendar.windows die ≡ None → is_round_pending core die ≡ false
free_settled core die bookings windows =
    ap (λ o. is_read_pending (get core.jobs die) o || is_step_pending core die) (bookings core.calendar.round)
    ∙ ap (λ w. is_in_window w core.calendar.round
    && (is_collecting (get core.jobs die) || (not (contains_key core.stepped die) && is_some (victim core.page_map die)))) windows
