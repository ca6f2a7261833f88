use Rattle.fa_machine.specs.State.{MapState}
use Rattle.fa_set.specs.Members.{Numbers, members}
use Rattle.fa_core_state.proofs.Numbers.{len_less, len_more}
use Rattle.std.proofs.Common.{ap, arith, sym, ◌∙◌}
use Rattle.std.specs.FinMap.{len}
use Rattle.fa_core_upkeep.proofs.spares.bring_in.Goals as goal

pub returns-clause-fitted : goal.returns-clause-fitted
returns-clause-fitted g c =
    let fit = c.requires.fitted in
    let dies = sym (ap (λ (m : MapState). m.geometry.dies) c.bring_in.ensures) in
    record {
      behind = c.mark_live.ensures.bound ∙ fit.behind ∙ dies;
      spares = c.remove.ensures.bound ∙ fit.spares ∙ dies;
      stepped = fit.stepped ∙ dies;
      waiting = fit.waiting ∙ dies;
      jobs = fit.jobs ∙ dies;
      asked = fit.asked ∙ dies;
      synced = fit.synced ∙ dies;
      last = fit.last;
      epoch =
          let before = fit.epoch in
          let live = ap (λ (m : MapState). len m.live) c.bring_in.ensures
          ∙ len_more (g.M.Map.view c.args.state.now.page_map).live c.args.die.0 c.requires.out in
          let left = ap (λ (m : Numbers). len m) c.remove.ensures.members in
          let spares = len_less (members c.args.state.now.spares) c.args.die.0 c.requires.spare in
          omega (arith, before, live, left, spares);
      flushes = fit.flushes;
      round = fit.round;
      buffers = fit.buffers ∙ sym (ap (λ (m : MapState). m.geometry.page_bytes) c.bring_in.ensures);
      tracked = fit.tracked;
      listed = λ batch page is.
          let low = fit.listed batch page is in let pages = ap (λ (m : MapState). m.geometry.pages) c.bring_in.ensures in
          omega (arith, low, pages);
      few = fit.few;
      inside = fit.inside;
    }
