use Rattle.std.proofs.Common.{◌≡◌, ◌≤◌, ◌+◌, ℕ, length, take}
use Rattle.std.specs.HashMap.{spare}
use Rattle.fa_core_bookings.specs.Booked.{booking_at}
use Rattle.fa_core_bookings.specs.Places.{booked_over}
use Rattle.fa_core_bookings.proofs.places.book_all.Given as goal

abbrev pub invariant-loop-place : goal.invariant-loop-place
invariant-loop-place g l = record {
  over : (d r : ℕ) → booking_at l.booked.entries d r
      ≡ booked_over l.batch (take l.place-index l.places) d r (booking_at l.initial.booked.entries d r);
  room : length l.places ≤ spare l.booked + l.place-index;
}
