use Rattle.fa_core_bookings.specs.Bookings.{calendar_of}
use Rattle.fa_machine.proofs.Maps.{get-place_other, get-place_same}
use Rattle.fa_machine.specs.State.{CalendarState}
use Rattle.fa_machine.specs.declared.places.Booking.{Booking}
use Rattle.fa_core_batches.specs.declared.page.PageState.TheVariants.{InFlight}
use Rattle.fa_core_tables.specs.Dies.{by_die}
use Rattle.fa_core_state.specs.Tracked.{AreTracked}
use Rattle.fa_core_dispatch.proofs.Flights.{tracked_read, was_booked}
use Rattle.fa_core_batches.specs.Pages.{opened}
use Rattle.fa_machine.specs.Maps.{is_one_of}
use Rattle.std.proofs.Common.{Some, ap, arith, length, refl, subst, sym, true, ℕ, ◌∙◌, ◌≡◌, ◌≤◌}
use Rattle.std.proofs.lemmas.Option.{same_Some}
use Rattle.std.specs.FinMap.{get, insert}
use Rattle.std.specs.Prelude.{◌^◌}
use Rattle.fa_core_dispatch.proofs.reading.begin_read.Goals as goal

pub returns-clause-fitted : goal.returns-clause-fitted
returns-clause-fitted g c =
    let fit = c.requires.fitted in
    let old = c.args.state.now in
    let calendar = calendar_of old.bookings in
    let now = (calendar_of c.start.new.self).bookings in
    let begun : Booking = record { batch = c.args.batch; page = c.args.page; started = true } in
    let found : (d r : ℕ) → get now (d, r) ≡ get (insert calendar.bookings (c.args.die.0, calendar.round) begun) (d, r) =
    λ d r. ap (λ (k : CalendarState). get k.bookings (d, r)) c.start.ensures
    ∙ ap (λ n. get (insert calendar.bookings (c.args.die.0, n) begun) (d, r)) c.now-round.ensures in
    let same = get-place_same calendar.bookings c.args.die.0 calendar.round begun in
    let began : (b : Booking) → get now (c.args.die.0, calendar.round) ≡ Some b → (b.batch.0 ≡ c.args.batch.0) × (b.started ≡ true) =
    λ b is.
    let one = same_Some _ _ (sym same ∙ sym (found c.args.die.0 calendar.round) ∙ is) in
    (sym (ap (λ (x : Booking). x.batch.0) one), sym (ap (λ (x : Booking). x.started) one)) in
    let others : (d r : ℕ) → (d ≡ c.args.die.0 → r ≡ calendar.round → ⊥) → get now (d, r) ≡ get calendar.bookings (d, r) =
    λ d r apart. found d r ∙ get-place_other calendar.bookings c.args.die.0 calendar.round begun d r apart in
    record {
      behind = fit.behind;
      spares = fit.spares;
      stepped = fit.stepped;
      waiting = fit.waiting;
      jobs = c.insert.ensures.bound ∙ fit.jobs;
      asked = fit.asked;
      synced = fit.synced;
      last = fit.last;
      epoch = fit.epoch;
      flushes = fit.flushes;
      round = subst (λ n. n ≤ 2 ^ 56) (sym (ap (λ (k : CalendarState). k.round) c.start.ensures)) fit.round;
      buffers = c.set.ensures.bytes ∙ fit.buffers;
      tracked = subst (λ jobs. AreTracked now jobs c.set.new.self) (sym c.insert.ensures.inserted)
          (tracked_read old.batches c.set.new.self calendar.bookings now (by_die old.jobs) fit.tracked c.args.die.0 calendar.round
          c.args.batch c.args.page (InFlight c.args.die) c.requires.booked refl began others c.set.ensures.batches c.set.ensures.states
          c.set.ensures.number c.args.version c.args.slot refl c.requires.idle);
      listed = λ b page is. fit.listed b page
          (ap (λ m. is_one_of (opened m b).pages page) (sym c.set.ensures.batches) ∙ is);
      few = λ b. subst (λ m. length (opened m b).pages ≤ 1024) (sym c.set.ensures.batches) (fit.few b);
      inside = λ die round is.
          let low = fit.inside die round
          (was_booked old.batches c.set.new.self calendar.bookings now (by_die old.jobs) fit.tracked c.args.die.0 calendar.round
          c.args.batch c.args.page (InFlight c.args.die) c.requires.booked refl began others c.set.ensures.batches c.set.ensures.states
          c.set.ensures.number die round is) in
          let bound = c.insert.ensures.bound in omega (arith, low, bound);
    }
