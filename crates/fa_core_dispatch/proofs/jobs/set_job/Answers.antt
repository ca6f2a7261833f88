use Rattle.fa_core_bookings.specs.Bookings.{calendar_of}
use Rattle.fa_core_tables.specs.Dies.{by_die}
use Rattle.fa_core_state.specs.Tracked.{AreTracked}
use Rattle.fa_core_dispatch.proofs.Flights.{tracked_other}
use Rattle.std.proofs.Common.{arith, subst, sym, ◌∙◌}
use Rattle.fa_core_dispatch.proofs.jobs.set_job.Goals as goal

pub returns-clause-fitted : goal.returns-clause-fitted
returns-clause-fitted g c =
    let fit = c.requires.fitted in
    let old = c.args.state.now in
    record {
      behind = fit.behind;
      spares = fit.spares;
      stepped = fit.stepped;
      waiting = fit.waiting;
      jobs = c.insert.ensures.bound ∙ fit.jobs;
      asked = fit.asked;
      synced = fit.synced;
      last = fit.last;
      epoch = fit.epoch;
      flushes = fit.flushes;
      round = fit.round;
      buffers = fit.buffers;
      tracked = subst (λ jobs. AreTracked (calendar_of old.bookings).bookings jobs old.batches) (sym c.insert.ensures.inserted)
          (tracked_other (calendar_of old.bookings).bookings (by_die old.jobs) old.batches c.args.die.0 c.args.flight c.requires.idle
          c.requires.other fit.tracked);
      listed = fit.listed;
      few = fit.few;
      inside = λ die round is. let low = fit.inside die round is in let bound = c.insert.ensures.bound in omega (arith, low, bound);
    }
