use Rattle.fa_batch_terms.specs.declared.place.Place.{Place}
use Rattle.fa_core_batches.specs.Batches.{batches_of, state_of}
use Rattle.fa_core_batches.specs.Pages.{opened}
use Rattle.fa_core_bookings.specs.Bookings.{calendar_of}
use Rattle.fa_core_bookings.specs.Places.{booked_over, without_places}
use Rattle.fa_calendar.specs.Dies.{is_at}
use Rattle.fa_machine.proofs.Maps.{passed}
use Rattle.fa_machine.specs.Maps.{is_one_of}
use Rattle.fa_machine.specs.Rounds.{is_taken}
use Rattle.fa_machine.specs.State.{CalendarState}
use Rattle.fa_core_tables.specs.Dies.{bound_of, by_die}
use Rattle.fa_core_read.proofs.Exchanged.{among_all, booked_inside, found_after, free_place, places_booked}
use Rattle.fa_core_read.proofs.Tracked.{tracked_after}
use Rattle.fa_core_read.proofs.booking.book.Goals as goal
use Rattle.fa_core_read_pages.specs.Left.{is_left}
use Rattle.fa_types.specs.Open.{IsOpen}
use Rattle.std.proofs.Common.{ap, length, subst, sym, true, ℕ, ◌<◌, ◌∙◌, ◌≡◌, ◌≤◌}
use Rattle.std.specs.FinMap.{contains_key, get}
use Rattle.std.specs.List.{AllByRecursion}
use Rattle.std.specs.Prelude.{not, ◌^◌}

pub exchange-requires-clause-booked : goal.exchange-requires-clause-booked
exchange-requires-clause-booked g c =
    let batches = c.args.state.now.batches in let calendar = calendar_of c.args.state.now.bookings in
    subst (λ places. AllByRecursion (λ (x : Place). contains_key calendar.bookings (x.die.0, x.round.0)
    ≡ true) places) (sym c.requires.booked)
    (places_booked calendar.bookings c.args.batch.0 (state_of batches c.args.batch.0) (opened (batches_of batches) c.args.batch.0).pages
    (c.requires.fitted.tracked.known c.args.batch.0))

pub returns-clause-fitted : goal.returns-clause-fitted
returns-clause-fitted g c =
    let fitted = c.requires.fitted in
    let batches = c.args.state.now.batches in let calendar = calendar_of c.args.state.now.bookings in
    let pages = (opened (batches_of batches) c.args.batch.0).pages in
    let ok = c.in_ok-exchange.ensures.ok in
    record {
      behind = fitted.behind;
      spares = fitted.spares;
      stepped = fitted.stepped;
      waiting = fitted.waiting;
      jobs = fitted.jobs;
      asked = fitted.asked;
      synced = fitted.synced;
      last = fitted.last;
      epoch = fitted.epoch;
      flushes = fitted.flushes;
      round = subst (λ n. n ≤ 2 ^ 56) (sym (ap (λ (k : CalendarState). k.round) ok)) fitted.round;
      buffers = c.enter.ensures.bytes ∙ fitted.buffers;
      tracked = tracked_after batches c.enter.new.batches calendar.bookings (calendar_of c.exchange.new.self).bookings (by_die
          c.args.state.now.jobs)
          fitted.tracked c.args.batch pages c.args.new.now c.requires.older c.requires.whole c.requires.apart c.requires.once
          (among_all (λ (x : Place). is_left (state_of batches c.args.batch.0 x.page.0) ≡ true) c.args.new.now c.requires.left)
          c.requires.all
          (λ x among some. subst (λ old. is_at old x.die.0 x.round.0 ≡ true) c.requires.booked
          (free_place calendar c.args.old.now x
          (among_all (λ (x : Place). IsOpen calendar.round (is_taken (without_places c.args.old.now calendar)) x.die.0 x.round.0)
          c.args.new.now
          c.requires.opens x among) some))
          (λ d r. ap (λ (k : CalendarState). get k.bookings (d, r)) ok ∙ found_after calendar c.args.old.now c.args.batch c.args.new.now d r
          ∙ ap (λ old. booked_over c.args.batch c.args.new.now d r (passed (λ booking. not (is_at old d r)) (get calendar.bookings (d, r))))
          c.requires.booked)
          c.enter.ensures.batches c.enter.ensures.states c.enter.ensures.number;
      listed = λ batch. subst (λ m. (page : ℕ) → is_one_of (opened m batch).pages page ≡ true
          → page < (g.M.Map.view c.args.state.now.page_map).geometry.pages) (sym c.enter.ensures.batches) (fitted.listed batch);
      few = λ batch. subst (λ m. length (opened m batch).pages ≤ 1024) (sym c.enter.ensures.batches) (fitted.few batch);
      inside = booked_inside calendar c.args.old.now c.args.batch c.args.new.now (bound_of c.args.state.now.jobs) fitted.inside
          (λ x among. subst (λ n. x.die.0 < n) (sym fitted.jobs)
          (among_all (λ (x : Place). x.die.0 < (g.M.Map.view c.args.state.now.page_map).geometry.dies) c.args.new.now c.requires.inside x
          among))
          (calendar_of c.exchange.new.self) ok;
    }
