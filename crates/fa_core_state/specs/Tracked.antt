-- How the bookings and the jobs of an array agree with what its batches know of their pages.
use Rattle.std.specs.FinMap.{FinMap, contains_key, get}
use Rattle.std.specs.Ordering.{nat_cmp}
use Rattle.std.specs.Prelude.{◌≡◌, ℕ, ◌<◌, Bool, true, false, Option, Some, None}
use Rattle.fa_core_batches.specs.Batches.{batches_of, next_of, state_of}
use Rattle.fa_core_batches.specs.declared.batches.Batches.{Batches}
use Rattle.fa_core_batches.specs.declared.page.PageState.TheVariants.{Booked, InFlight}
use Rattle.fa_machine.specs.Maps.{place_cmp}
use Rattle.fa_machine.specs.Reading.{is_read_for}
use Rattle.fa_machine.specs.declared.ids.BatchId.{BatchId}
use Rattle.fa_machine.specs.declared.jobs.Flight.{Flight}
use Rattle.fa_machine.specs.declared.jobs.Flight.TheVariants.{Read}
use Rattle.fa_machine.specs.declared.places.Booking.{Booking}
use Rattle.fa_machine.specs.declared.places.Version.{Version}
use Rattle.fa_types.specs.declared.numbers.Die.{Die}
use Rattle.fa_types.specs.declared.numbers.Page.{Page}
use Rattle.fa_types.specs.declared.numbers.Round.{Round}
use Rattle.fa_types.specs.declared.numbers.Slot.{Slot}

-- whether what a die is at is the read of a page for a batch
abbrev pub is_at_read : ℕ → ℕ → Option Flight → Bool
is_at_read batch page (Some flight) = is_read_for batch page flight
is_at_read batch page None = false

-- a booking that was not started
abbrev pub unstarted : ℕ → ℕ → Booking
unstarted batch page = record { batch = record { 0 = batch }; page = record { 0 = page }; started = false }

-- A booking that was not started is known to the page of its batch, which is open, and a read in flight is, where its batch is
-- open still; what a page knows is so; and the batches that bookings and jobs name are older than the next one.
module _ {A : Type 0} where
  pub record AreTracked (bookings : FinMap place_cmp Booking) (jobs : FinMap nat_cmp Flight) (batches : Batches A) : Type 0 where
    pub booked : (die round batch page : ℕ) → get bookings (die, round) ≡ Some (unstarted batch page)
        → state_of batches batch page ≡ Some (Booked (record { 0 = die }) (record { 0 = round }))
    pub known : (batch page : ℕ) (die : Die) (round : Round) → state_of batches batch page ≡ Some (Booked die round)
        → get bookings (die.0, round.0) ≡ Some (unstarted batch page)
    pub flying : (die : ℕ) (batch : BatchId) (page : Page) (version : Version) (slot : Slot) → get jobs die
        ≡ Some (Read batch page version slot)
        → contains_key (batches_of batches) batch.0 ≡ true → state_of batches batch.0 page.0 ≡ Some (InFlight (record { 0 = die }))
    pub reading : (batch page : ℕ) (die : Die) → state_of batches batch page ≡ Some (InFlight die)
        → is_at_read batch page (get jobs die.0) ≡ true
    pub older_booked : (die round : ℕ) (b : Booking) → get bookings (die, round) ≡ Some b → b.batch.0 < next_of batches
    pub older_read : (die : ℕ) (batch : BatchId) (page : Page) (version : Version) (slot : Slot)
        → get jobs die ≡ Some (Read batch page version slot) → batch.0 < next_of batches
