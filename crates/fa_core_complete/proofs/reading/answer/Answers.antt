use Rattle.fa_core_batches.specs.Batches.{batches_of}
use Rattle.fa_core_batches.specs.Pages.{opened}
use Rattle.fa_core_bookings.specs.Bookings.{calendar_of}
use Rattle.fa_core_complete.proofs.Answered.{as_open, not_open, same_pages}
use Rattle.fa_core_complete.proofs.Ended.{over}
use Rattle.fa_core_complete.proofs.Tracked.{late_closed, tracked_answered, tracked_late}
use Rattle.fa_core_complete.proofs.reading.answer.Goals as goal
use Rattle.fa_machine.specs.Maps.{is_one_of}
use Rattle.fa_machine.specs.State.{OpenBatch}
use Rattle.fa_machine.specs.declared.jobs.Flight.{Flight}
use Rattle.fa_core_tables.specs.Dies.{by_die}
use Rattle.fa_core_state.specs.Core.{core_of}
use Rattle.fa_core_state.specs.Tracked.{AreTracked}
use Rattle.std.proofs.Common.{List, ap, length, subst, sym, true, ℕ, ◌<◌, ◌∙◌, ◌≡◌, ◌≤◌}
use Rattle.std.specs.FinMap.{FinMap, contains_key, get, insert}
use Rattle.std.specs.Ordering.{nat_cmp}
use Rattle.std.specs.Prelude.{is_some}

pub returns-in-Some-clause-fitted : goal.returns-in-Some-clause-fitted
returns-in-Some-clause-fitted g c =
    let fit = c.requires.fitted in
    let state = c.args.state.now in
    let before = batches_of state.batches in
    let answers = insert (opened before c.args.batch.0).answers c.args.page.0 c.args.buffer.now.items in
    let there : contains_key before c.args.batch.0 ≡ true = c.state.ensures.open (ap is_some (sym c.in-Some.ensures.state)) in
    let pages = λ (batch : ℕ). ap (λ (m : FinMap nat_cmp OpenBatch). (opened m batch).pages) c.answer.ensures.answered
    ∙ same_pages before c.args.batch.0 answers batch in
    record {
      behind = fit.behind;
      spares = fit.spares;
      stepped = fit.stepped;
      waiting = fit.waiting;
      jobs = c.remove.ensures.bound ∙ fit.jobs;
      asked = fit.asked;
      synced = fit.synced;
      last = fit.last;
      epoch = fit.epoch;
      flushes = fit.flushes;
      round = fit.round;
      buffers = c.answer.ensures.bytes ∙ fit.buffers;
      tracked = subst (λ (m : FinMap nat_cmp Flight). AreTracked (calendar_of state.bookings).bookings m c.answer.new.self)
          (sym c.remove.ensures.removed)
          (tracked_answered (calendar_of state.bookings).bookings (by_die state.jobs) state.batches c.args.die.0 c.args.batch c.args.page
          c.args.version c.args.slot fit.tracked c.requires.job c.answer.new.self there
          (λ b is. as_open before c.args.batch.0 answers there b (ap (λ (m : FinMap nat_cmp OpenBatch). contains_key m b)
          (sym c.answer.ensures.answered) ∙ is)) c.answer.ensures.states c.answer.ensures.number);
      listed = λ batch page is. fit.listed batch page (ap (λ (ps : List ℕ). is_one_of ps page) (sym (pages batch)) ∙ is);
      few = λ batch. subst (λ (ps : List ℕ). length ps ≤ 1024) (sym (pages batch)) (fit.few batch);
      inside = λ die round is. subst (λ n. die < n) (sym c.remove.ensures.bound) (fit.inside die round is);
    }

pub returns-in-None-clause-answered : goal.returns-in-None-clause-answered
returns-in-None-clause-answered g c =
    let core = core_of g.M.Map.view c.args.state.now in
    (λ i. record core { jobs = c.remove.ensures.removed i })
    ∙ not_open (over core c.args.die.0) c.args.batch.0 c.args.page.0 c.args.buffer.now.items (get core.batches c.args.batch.0)
    (late_closed core.calendar.bookings core.jobs c.args.state.now.batches c.args.die.0 c.args.batch c.args.page c.args.version c.args.slot
    c.requires.fitted.tracked c.requires.job (sym c.in-None.ensures.state))

pub returns-in-None-clause-fitted : goal.returns-in-None-clause-fitted
returns-in-None-clause-fitted g c =
    let fit = c.requires.fitted in
    let state = c.args.state.now in
    record {
      behind = fit.behind;
      spares = fit.spares;
      stepped = fit.stepped;
      waiting = fit.waiting;
      jobs = c.remove.ensures.bound ∙ fit.jobs;
      asked = fit.asked;
      synced = fit.synced;
      last = fit.last;
      epoch = fit.epoch;
      flushes = fit.flushes;
      round = fit.round;
      buffers = fit.buffers;
      tracked = subst (λ (m : FinMap nat_cmp Flight). AreTracked (calendar_of state.bookings).bookings m state.batches)
          (sym c.remove.ensures.removed)
          (tracked_late (calendar_of state.bookings).bookings (by_die state.jobs) state.batches c.args.die.0 c.args.batch c.args.page
          c.args.version c.args.slot fit.tracked c.requires.job (sym c.in-None.ensures.state));
      listed = fit.listed;
      few = fit.few;
      inside = λ die round is. subst (λ n. die < n) (sym c.remove.ensures.bound) (fit.inside die round is);
    }
