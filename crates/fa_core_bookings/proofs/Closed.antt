-- The closed rounds of the calendar are those that are taken in the array's state.
use Rattle.fa_core_bookings.proofs.Booked.{advanced}
use Rattle.fa_core_bookings.specs.Booked.{Entries, booking_at}
use Rattle.fa_core_bookings.specs.declared.bookings.Bookings.{Bookings}
use Rattle.fa_closed.specs.Runs.{is_covered}
use Rattle.fa_calendar.specs.Calendar.{is_booked, window_of}
use Rattle.fa_calendar.specs.DieState.{DieState}
use Rattle.fa_calendar.specs.Dies.{closed_by, no_rounds}
use Rattle.fa_types.specs.Windows.{is_in_window}
use Rattle.fa_calendar.specs.declared.calendar.Calendar.{Calendar}
use Rattle.std.proofs.lemmas.Bool.{and_left, cases_lt, false≢true}
use Rattle.std.proofs.lemmas.List.{get_or_past}
use Rattle.std.proofs.Common.{None, ap, arith, false, inl, inr, sym, true, ℕ, ◌≤◌, ◌∙◌, ◌≡◌}
use Rattle.std.specs.Prelude.{if◌then◌else◌, nat_lt, not, ◌&&◌, ◌==◌}

-- nothing is booked in a round that has passed
pub late : {A : Type 0} (calendar : Calendar A) (die round : ℕ) → is_booked calendar die round ≡ true → calendar.current ≤ round
late calendar die round booked =
    elim (cases_lt round calendar.current) [
      | inr from ↦ from
      | inl passed ↦ absurd (false≢true (sym (ap (λ b. b && not (is_in_window (window_of calendar die) round))
          (calendar.sound.past die round passed)) ∙ booked))
    ]

-- nothing is booked beyond the 256th die
pub none_beyond : {A : Type 0} (calendar : Calendar A) (die round : ℕ) → 256 ≤ die → is_booked calendar die round ≡ false
none_beyond calendar die round high =
    let long = calendar.sound.long in
    and_left (closed_by calendar.dies.items die round) (not (is_in_window (window_of calendar die) round))
    (ap (λ (s : DieState). is_covered s.spans round) (get_or_past calendar.dies.items die no_rounds (omega (arith, long, high))))

-- what is left of the bookings where a round has passed
pub remains : {A : Type 0} (b : Bookings A) (new : Entries)
    → ((d r : ℕ) → booking_at new d r ≡ (if r == b.calendar.current then None else booking_at b.booked.entries d r))
    → (d r : ℕ) → booking_at new d r ≡ (if nat_lt b.calendar.current r then booking_at b.booked.entries d r else None)
remains b new forgotten d r =
    forgotten d r
    ∙ advanced b.calendar.current r (booking_at b.booked.entries d r) (λ some. late b.calendar d r (b.agree d r ∙ some))
