-- What contracts see of bookings: the calendar's part of the array's state.
use Rattle.std.specs.FinMap.{from_entries}
use Rattle.fa_core_bookings.specs.Booked.{windows_in}
use Rattle.fa_core_bookings.specs.declared.bookings.Bookings.{Bookings}
use Rattle.fa_calendar.specs.Calendar.{current_of, window_of}
use Rattle.fa_machine.specs.State.{CalendarState}

module _ {A : Type 0} where
  abbrev pub calendar_of : Bookings A → CalendarState
  calendar_of bookings = record {
    round = current_of bookings.calendar;
    bookings = from_entries bookings.booked.entries;
    windows = windows_in (window_of bookings.calendar);
  }
