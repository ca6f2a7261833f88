use Rattle.std.proofs.Common.{◌≡◌, ◌≤◌, ℕ, None, take}
use Rattle.std.specs.Prelude.{if◌then◌else◌}
use Rattle.std.specs.HashMap.{spare}
use Rattle.fa_core_bookings.specs.Booked.{booking_at}
use Rattle.fa_calendar.specs.Dies.{is_at}
use Rattle.fa_core_bookings.proofs.places.take_out_all.Given as goal

abbrev pub invariant-loop-place : goal.invariant-loop-place
invariant-loop-place g l = record {
  gone : (d r : ℕ) → booking_at l.booked.entries d r
      ≡ (if is_at (take l.place-index l.places) d r then None else booking_at l.initial.booked.entries d r);
  spare : spare l.initial.booked ≤ spare l.booked;
}
