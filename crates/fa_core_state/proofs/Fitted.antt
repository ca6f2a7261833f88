-- A state stays fitted with another calendar that has the same round and the same bookings.
use Rattle.fa_core_bookings.specs.Bookings.{calendar_of}
use Rattle.fa_core_bookings.specs.declared.bookings.Bookings.{Bookings}
use Rattle.fa_machine.specs.Maps.{place_cmp}
use Rattle.fa_machine.specs.State.{MapState}
use Rattle.fa_machine.specs.declared.places.Booking.{Booking}
use Rattle.fa_core_tables.specs.Dies.{bound_of, by_die}
use Rattle.fa_core_state.specs.Fitted.{IsFitted}
use Rattle.fa_core_state.specs.Tracked.{AreTracked}
use Rattle.fa_core_state.specs.declared.state.State.{State}
use Rattle.std.proofs.Common.{subst, true, ℕ, ◌<◌, ◌≡◌, ◌≤◌}
use Rattle.std.specs.FinMap.{FinMap, contains_key}
use Rattle.std.specs.Prelude.{◌^◌}

pub fitted_calendar : {M A : Type 0} (view : M → MapState) (state : State M A) → IsFitted view state → (bookings : Bookings A)
    → (calendar_of state.bookings).round ≡ (calendar_of bookings).round
    → (calendar_of state.bookings).bookings ≡ (calendar_of bookings).bookings → IsFitted view (record state { bookings = bookings })
fitted_calendar view state fit bookings round same = record {
  behind = fit.behind;
  spares = fit.spares;
  stepped = fit.stepped;
  waiting = fit.waiting;
  jobs = fit.jobs;
  asked = fit.asked;
  synced = fit.synced;
  last = fit.last;
  epoch = fit.epoch;
  flushes = fit.flushes;
  round = subst (λ n. n ≤ 2 ^ 56) round fit.round;
  buffers = fit.buffers;
  tracked = subst (λ (m : FinMap place_cmp Booking). AreTracked m (by_die state.jobs) state.batches) same fit.tracked;
  listed = fit.listed;
  few = fit.few;
  inside = subst (λ (m : FinMap place_cmp Booking). (die round : ℕ) → contains_key m (die, round) ≡ true → die < bound_of state.jobs)
      same fit.inside;
}
