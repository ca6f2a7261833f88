use Rattle.std.proofs.Common.{ap, sym, ◌∙◌}
use Rattle.fa_core_bookings.specs.Booked.{Entries, booking_at}
use Rattle.std.specs.Prelude.{is_some}
use Rattle.fa_core_bookings.proofs.Windows.{no_windows}
use Rattle.fa_calendar.specs.Calendar.{window_of}
use Rattle.std.specs.FinMap.{from_entries}
use Rattle.fa_core_bookings.proofs.bookings.Bookings.new.Goals as goal

pub returns : goal.returns
returns g c = λ i. record {
  round = c.in_ok-calendar.ensures.current i;
  bookings = from_entries (c.new-2.ensures.empty i);
  windows = no_windows (window_of c.in_ok-calendar.calendar) c.in_ok-calendar.ensures.windows i;
}

pub invariant_of-result : goal.invariant_of-result
invariant_of-result g c = record {
  agree = λ die round. c.in_ok-calendar.ensures.booked die round
      ∙ sym (ap (λ (es : Entries). is_some (booking_at es die round)) c.new-2.ensures.empty);
}
