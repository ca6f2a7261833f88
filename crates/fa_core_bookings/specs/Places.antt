-- The bookings of a calendar where places are given up and others booked.
use Rattle.std.specs.Prelude.{ℕ, List, Option, Some, not, fold, false, if◌then◌else◌}
use Rattle.fa_batch_terms.specs.declared.place.Place.{Place}
use Rattle.fa_calendar.specs.Dies.{is_at, is_one}
use Rattle.fa_machine.specs.Maps.{keep}
use Rattle.fa_machine.specs.State.{CalendarState}
use Rattle.fa_machine.specs.declared.ids.BatchId.{BatchId}
use Rattle.fa_machine.specs.declared.places.Booking.{Booking}

-- the calendar without the bookings at these places
abbrev pub without_places : List Place → CalendarState → CalendarState
without_places places calendar = record calendar { bookings = keep (λ place booking. not (is_at places place.0 place.1)) calendar.bookings }

-- what a place is booked for
abbrev pub booking_of : BatchId → Place → Booking
booking_of batch place = record { batch = batch; page = place.page; started = false }

-- what a round of a die is booked for once these places are booked for a batch, one after the other
abbrev pub booked_over : BatchId → List Place → ℕ → ℕ → Option Booking → Option Booking
booked_over batch places die round before = fold (λ found x. if is_one x die round then Some (booking_of batch x) else found) before places
