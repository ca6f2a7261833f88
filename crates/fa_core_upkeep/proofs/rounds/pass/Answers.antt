use Rattle.fa_machine.specs.Maps.{place_cmp}
use Rattle.fa_machine.specs.State.{CalendarState}
use Rattle.fa_machine.specs.declared.places.Booking.{Booking}
use Rattle.fa_core_tables.specs.Dies.{bound_of, by_die}
use Rattle.fa_core_state.specs.Core.{core_of}
use Rattle.fa_core_state.specs.Tracked.{AreTracked}
use Rattle.fa_core_upkeep.proofs.Passed.{below_end, inside_left, may_pass, tracked_left}
use Rattle.std.proofs.Common.{ap, arith, subst, sym, true, ℕ, ◌<◌, ◌∙◌, ◌≡◌}
use Rattle.std.specs.FinMap.{FinMap, contains_key}
use Rattle.std.specs.Prelude.{◌^◌}
use Rattle.fa_core_upkeep.proofs.rounds.pass.Goals as goal

pub advance-requires : goal.advance-requires
advance-requires g c =
    let core = core_of g.M.Map.view c.args.state.now in
    below_end core.calendar.round (2 ^ 56) c.requires.fitted.round (may_pass core c.requires.ready).1

pub returns-clause-fitted : goal.returns-clause-fitted
returns-clause-fitted g c =
    let view = g.M.Map.view in
    let state = c.args.state.now in
    let fit = c.requires.fitted in
    let free = may_pass (core_of view state) c.requires.ready in
    let passed = c.advance.ensures in
    let bookings = sym (ap (λ (k : CalendarState). k.bookings) passed) in
    record {
      behind = fit.behind;
      spares = fit.spares;
      stepped = c.clear.ensures.bound ∙ fit.stepped;
      waiting = fit.waiting;
      jobs = fit.jobs;
      asked = fit.asked;
      synced = fit.synced;
      last = fit.last;
      epoch = fit.epoch;
      flushes = fit.flushes;
      round =
          let early = below_end (core_of view state).calendar.round (2 ^ 56) fit.round free.1 in
          let next = ap (λ (k : CalendarState). k.round) passed in
          omega (arith, early, next);
      buffers = fit.buffers;
      tracked = subst (λ (m : FinMap place_cmp Booking). AreTracked m (by_die state.jobs) state.batches) bookings
          (tracked_left view state fit free.0);
      listed = fit.listed;
      few = fit.few;
      inside = subst (λ (m : FinMap place_cmp Booking). (die r : ℕ) → contains_key m (die, r) ≡ true → die < bound_of state.jobs)
          bookings (inside_left view state fit free.0);
    }
