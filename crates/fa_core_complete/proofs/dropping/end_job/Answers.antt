use Rattle.fa_core_bookings.specs.Bookings.{calendar_of}
use Rattle.fa_core_complete.proofs.Tracked.{tracked_over}
use Rattle.fa_core_complete.proofs.dropping.end_job.Goals as goal
use Rattle.fa_machine.specs.declared.jobs.Flight.{Flight}
use Rattle.fa_core_tables.specs.Dies.{by_die}
use Rattle.fa_core_state.specs.Tracked.{AreTracked}
use Rattle.std.proofs.Common.{subst, sym, ◌<◌, ◌∙◌}
use Rattle.std.specs.FinMap.{FinMap}
use Rattle.std.specs.Ordering.{nat_cmp}

pub returns-clause-fitted : goal.returns-clause-fitted
returns-clause-fitted g c =
    let fit = c.requires.fitted in
    let state = c.args.state.now in
    record {
      behind = fit.behind;
      spares = fit.spares;
      stepped = fit.stepped;
      waiting = fit.waiting;
      jobs = c.remove.ensures.bound ∙ fit.jobs;
      asked = fit.asked;
      synced = fit.synced;
      last = fit.last;
      epoch = fit.epoch;
      flushes = fit.flushes;
      round = fit.round;
      buffers = fit.buffers;
      tracked = subst (λ (m : FinMap nat_cmp Flight). AreTracked (calendar_of state.bookings).bookings m state.batches)
          (sym c.remove.ensures.removed)
          (tracked_over (calendar_of state.bookings).bookings (by_die state.jobs) state.batches c.args.die.0 c.requires.other
          fit.tracked);
      listed = fit.listed;
      few = fit.few;
      inside = λ die round there. subst (λ n. die < n) (sym c.remove.ensures.bound) (fit.inside die round there);
    }
