-- The read of a booking.
use Rattle.std.specs.Prelude.{◌≡◌, false}
use Rattle.fa_machine.specs.declared.jobs.Flight.{Flight}
use Rattle.fa_machine.specs.declared.jobs.Flight.TheVariants.{Read}
use Rattle.fa_machine.specs.declared.places.Booking.{Booking}

-- a read of a booking that was not started
abbrev pub IsReadOf : Booking → Flight → Type 0
IsReadOf b (Read batch page version slot) = b ≡ record { batch = batch; page = page; started = false }
IsReadOf b flight = ⊥
