use Rattle.fa_core_batches.specs.Pages.{is_answered, opened}
use Rattle.fa_core_batches.specs.declared.page.PageState.TheVariants.{Torn}
use Rattle.fa_core_bookings.specs.Bookings.{calendar_of}
use Rattle.fa_machine.specs.Maps.{is_one_of}
use Rattle.fa_machine.specs.State.{CalendarState}
use Rattle.fa_machine.specs.declared.places.Booking.{Booking}
use Rattle.fa_core_tables.specs.Dies.{by_die}
use Rattle.fa_core_state.specs.Core.{core_of}
use Rattle.fa_core_state.specs.Tracked.{unstarted}
use Rattle.fa_core_dispatch.proofs.Dropped.{dropped, left_alone, not_there, others_there}
use Rattle.fa_core_dispatch.proofs.Flights.{tracked_dropped, was_booked}
use Rattle.std.proofs.Common.{Some, ap, false, length, refl, subst, sym, true, ℕ, ◌∙◌, ◌≡◌, ◌≤◌}
use Rattle.std.proofs.lemmas.Option.{none-some, same_Some}
use Rattle.std.specs.FinMap.{get, remove}
use Rattle.std.specs.Option.{option_map_or}
use Rattle.std.specs.Prelude.{is_some, ◌^◌}
use Rattle.fa_core_dispatch.proofs.reading.drop_unstarted.Goals as goal

pub returns-then-booking-clause-dropped : goal.returns-then-booking-clause-dropped
returns-then-booking-clause-dropped g c =
    let core = core_of g.M.Map.view c.args.state.now in
    let same = sym (left_alone core.calendar.bookings c.args.die.0 core.calendar.round (λ b is.
    let one = same_Some _ _ (sym c.requires.booked ∙ ap (λ n. get core.calendar.bookings (c.args.die.0, n)) c.requires.round ∙ is) in
    sym (ap (λ (x : Booking). x.started) one) ∙ c.if-booking.true)) in
    λ i. record core { calendar = record (core.calendar) { bookings = same i } }

pub set-requires-clause-there : goal.set-requires-clause-there
set-requires-clause-there g c =
    ap is_some (c.requires.fitted.tracked.booked c.args.die.0 c.args.round.0 c.args.booking.batch.0 c.args.booking.page.0
    (c.requires.booked ∙ (λ i. Some (record (c.args.booking) { started = c.if-booking.false i }))))

pub set-requires-clause-open : goal.set-requires-clause-open
set-requires-clause-open g c =
    ap (λ s. option_map_or is_answered s false)
    (c.requires.fitted.tracked.booked c.args.die.0 c.args.round.0 c.args.booking.batch.0 c.args.booking.page.0
    (c.requires.booked ∙ (λ i. Some (record (c.args.booking) { started = c.if-booking.false i }))))

pub returns-clause-dropped : goal.returns-clause-dropped
returns-clause-dropped g c =
    let core = core_of g.M.Map.view c.args.state.now in
    let at = ap (λ n. get core.calendar.bookings (c.args.die.0, n)) (sym c.requires.round) ∙ c.requires.booked in
    let same = ap (λ n. remove core.calendar.bookings (c.args.die.0, n)) c.requires.round
    ∙ sym (dropped core.calendar.bookings c.args.die.0 core.calendar.round c.args.booking at c.if-booking.false) in
    (λ i. record core { calendar = c.release.ensures i; batches = c.set.ensures.batches i })
    ∙ (λ i. record core { calendar = record (core.calendar) { bookings = same i } })

pub returns-clause-fitted : goal.returns-clause-fitted
returns-clause-fitted g c =
    let fit = c.requires.fitted in
    let old = c.args.state.now in
    let calendar = calendar_of old.bookings in
    let now = (calendar_of c.release.new.self).bookings in
    let booked : get calendar.bookings (c.args.die.0, c.args.round.0) ≡ Some (unstarted c.args.booking.batch.0 c.args.booking.page.0) =
    c.requires.booked ∙ (λ i. Some (record (c.args.booking) { started = c.if-booking.false i })) in
    let found : (d r : ℕ) → get now (d, r) ≡ get (remove calendar.bookings (c.args.die.0, c.args.round.0)) (d, r) =
    λ d r. ap (λ (k : CalendarState). get k.bookings (d, r)) c.release.ensures in
    let began : (b : Booking) → get now (c.args.die.0, c.args.round.0) ≡ Some b
    → (b.batch.0 ≡ c.args.booking.batch.0) × (b.started ≡ true) =
    λ b is. absurd (none-some b (sym (not_there calendar.bookings c.args.die.0 c.args.round.0)
    ∙ sym (found c.args.die.0 c.args.round.0) ∙ is)) in
    let others : (d r : ℕ) → (d ≡ c.args.die.0 → r ≡ c.args.round.0 → ⊥) → get now (d, r) ≡ get calendar.bookings (d, r) =
    λ d r apart. found d r ∙ others_there calendar.bookings c.args.die.0 c.args.round.0 d r apart in
    record {
      behind = fit.behind;
      spares = fit.spares;
      stepped = fit.stepped;
      waiting = fit.waiting;
      jobs = fit.jobs;
      asked = fit.asked;
      synced = fit.synced;
      last = fit.last;
      epoch = fit.epoch;
      flushes = fit.flushes;
      round = subst (λ n. n ≤ 2 ^ 56) (sym (ap (λ (k : CalendarState). k.round) c.release.ensures)) fit.round;
      buffers = c.set.ensures.bytes ∙ fit.buffers;
      tracked = tracked_dropped old.batches c.set.new.self calendar.bookings now (by_die old.jobs) fit.tracked c.args.die.0
          c.args.round.0 c.args.booking.batch c.args.booking.page Torn booked refl began others c.set.ensures.batches
          c.set.ensures.states c.set.ensures.number refl;
      listed = λ b page is. fit.listed b page
          (ap (λ m. is_one_of (opened m b).pages page) (sym c.set.ensures.batches) ∙ is);
      few = λ b. subst (λ m. length (opened m b).pages ≤ 1024) (sym c.set.ensures.batches) (fit.few b);
      inside = λ die round is. fit.inside die round
          (was_booked old.batches c.set.new.self calendar.bookings now (by_die old.jobs) fit.tracked c.args.die.0
          c.args.round.0 c.args.booking.batch c.args.booking.page Torn booked refl began others c.set.ensures.batches
          c.set.ensures.states c.set.ensures.number die round is);
    }
