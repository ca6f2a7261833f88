use Rattle.fa_core_bookings.specs.Bookings.{calendar_of}
use Rattle.fa_core_complete.proofs.Tracked.{left_there, tracked_out}
use Rattle.fa_core_complete.proofs.dropping.lose_die.Goals as goal
use Rattle.fa_machine.specs.State.{CalendarState, MapState, OpenBatch}
use Rattle.fa_machine.specs.declared.jobs.Flight.{Flight}
use Rattle.fa_core_batches.specs.Pages.{opened}
use Rattle.fa_machine.specs.Maps.{is_one_of}
use Rattle.fa_core_tables.specs.Dies.{by_die}
use Rattle.fa_core_state.proofs.Numbers.{len_less}
use Rattle.fa_core_state.specs.Tracked.{AreTracked}
use Rattle.std.proofs.Common.{ap, arith, length, subst, sym, ◌<◌, ◌∙◌, ◌≤◌}
use Rattle.std.specs.FinMap.{FinMap, contains_key, len, remove}
use Rattle.std.specs.Ordering.{nat_cmp}
use Rattle.std.specs.Prelude.{◌^◌}

pub remove-requires : goal.remove-requires
remove-requires g c =
    subst (λ n. c.args.die.0 < n) (sym c.requires.fitted.stepped)
    ((g.met.M.Map.whole c.args.state.now.page_map).live c.args.die.0 c.requires.live)

pub returns-clause-fitted : goal.returns-clause-fitted
returns-clause-fitted g c =
    let fit = c.requires.fitted in
    let state = c.args.state.now in
    let out = c.drop_die.ensures in
    let dies = sym (ap (λ (m : MapState). m.geometry.dies) out) in
    let calendar = c.drop_die-2.ensures in
    record {
      behind = c.mark_live.ensures.bound ∙ fit.behind ∙ dies;
      spares = fit.spares ∙ dies;
      stepped = c.remove.ensures.bound ∙ fit.stepped ∙ dies;
      waiting = c.drop_die-3.ensures.dies ∙ fit.waiting ∙ dies;
      jobs = c.remove-2.ensures.bound ∙ fit.jobs ∙ dies;
      asked = c.remove-3.ensures.bound ∙ fit.asked ∙ dies;
      synced = c.remove-4.ensures.bound ∙ fit.synced ∙ dies;
      last = fit.last;
      epoch =
          let before = fit.epoch in
          let live = ap (λ (m : MapState). len m.live) out in
          let less = len_less (g.M.Map.view state.page_map).live c.args.die.0 c.requires.live in
          omega (arith, before, live, less);
      flushes = fit.flushes;
      round = subst (λ n. n ≤ 2 ^ 56) (sym (ap (λ (k : CalendarState). k.round) calendar)) fit.round;
      buffers = c.drop_die-4.ensures.bytes ∙ fit.buffers ∙ sym (ap (λ (m : MapState). m.geometry.page_bytes) out);
      tracked = subst (λ (m : FinMap nat_cmp Flight). AreTracked (calendar_of c.drop_die-2.new.self).bookings m
          c.drop_die-4.new.self) (sym c.remove-2.ensures.removed)
          (subst (λ (k : CalendarState). AreTracked k.bookings (remove (by_die state.jobs) c.args.die.0) c.drop_die-4.new.self)
          (sym calendar)
          (tracked_out (calendar_of state.bookings).bookings (by_die state.jobs) state.batches c.drop_die-4.new.self c.args.die.0
          fit.tracked c.drop_die-4.ensures.batches c.drop_die-4.ensures.states c.drop_die-4.ensures.number));
      listed = λ batch page is.
          subst (λ n. page < n) (sym (ap (λ (m : MapState). m.geometry.pages) out))
          (fit.listed batch page (ap (λ (m : FinMap nat_cmp OpenBatch). is_one_of (opened m batch).pages page)
          (sym c.drop_die-4.ensures.batches) ∙ is));
      few = λ batch.
          subst (λ (m : FinMap nat_cmp OpenBatch). length (opened m batch).pages ≤ 1024) (sym c.drop_die-4.ensures.batches)
          (fit.few batch);
      inside = λ die round there.
          subst (λ n. die < n) (sym c.remove-2.ensures.bound)
          (fit.inside die round (left_there (calendar_of state.bookings).bookings c.args.die.0 die round
          (ap (λ (k : CalendarState). contains_key k.bookings (die, round)) (sym calendar) ∙ there)));
    }
