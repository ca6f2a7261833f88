use Rattle.fa_core_bookings.specs.Bookings.{calendar_of}
use Rattle.fa_machine.specs.State.{MapState}
use Rattle.fa_machine.specs.declared.jobs.Flight.TheVariants.{Move}
use Rattle.fa_core_tables.specs.Dies.{by_die}
use Rattle.fa_core_state.specs.Tracked.{AreTracked}
use Rattle.fa_core_dispatch.proofs.Flights.{tracked_other}
use Rattle.std.proofs.Common.{ap, arith, refl, subst, sym, ◌∙◌}
use Rattle.std.specs.FinMap.{len}
use Rattle.fa_core_dispatch.proofs.collecting.begin_move.Goals as goal

pub returns-clause-fitted : goal.returns-clause-fitted
returns-clause-fitted g c =
    let fit = c.requires.fitted in
    let old = c.args.state.now in
    let dies = sym (ap (λ (m : MapState). m.geometry.dies) c.reserve_slot.ensures) in
    record {
      behind = fit.behind ∙ dies;
      spares = fit.spares ∙ dies;
      stepped = fit.stepped ∙ dies;
      waiting = fit.waiting ∙ dies;
      jobs = c.insert.ensures.bound ∙ fit.jobs ∙ dies;
      asked = fit.asked ∙ dies;
      synced = fit.synced ∙ dies;
      last = fit.last;
      epoch =
          let before = fit.epoch in let live = ap (λ (m : MapState). len m.live) c.reserve_slot.ensures in omega (arith, before, live);
      flushes = fit.flushes;
      round = fit.round;
      buffers = fit.buffers ∙ sym (ap (λ (m : MapState). m.geometry.page_bytes) c.reserve_slot.ensures);
      tracked = subst (λ jobs. AreTracked (calendar_of old.bookings).bookings jobs old.batches) (sym c.insert.ensures.inserted)
          (tracked_other (calendar_of old.bookings).bookings (by_die old.jobs) old.batches c.args.die.0
          (Move c.args.page c.args.version c.args.from c.args.to) c.requires.idle refl fit.tracked);
      listed = λ batch page is.
          let low = fit.listed batch page is in let pages = ap (λ (m : MapState). m.geometry.pages) c.reserve_slot.ensures in
          omega (arith, low, pages);
      few = fit.few;
      inside = λ die round is. let low = fit.inside die round is in let bound = c.insert.ensures.bound in omega (arith, low, bound);
    }
