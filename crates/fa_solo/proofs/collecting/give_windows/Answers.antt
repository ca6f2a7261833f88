use Rattle.std.proofs.Common.{◌≡◌, ◌+◌, ◌∙◌, ap, arith, refl, subst, sym}
use Rattle.fa_machine.specs.State.{Core}
use Rattle.fa_solo.proofs.Windows.{NoneBelow, gives_all, gives_more}
use Rattle.fa_solo.specs.Collecting.{Gives}
use Rattle.fa_solo.specs.declared.collecting.Windows.{Windows}
use Rattle.fa_solo_job.proofs.Chains.{does_more, does_none}
use Rattle.fa_solo_job.specs.Deeds.{IsForDies}
use Rattle.fa_types.specs.declared.geometry.Geometry.{Geometry}
use Rattle.fa_solo.proofs.collecting.give_windows.Goals as goal

pub loop-die-init : goal.loop-die-init
loop-die-init g c = record { does = does_none _ IsForDies _; gives = (refl, λ is die low. absurd (omega (arith, low))) }

pub loop-die-preserved : goal.loop-die-preserved
loop-die-preserved g c =
    let same : c.geometry-die-end.result.dies ≡ c.args.inner.now.locked.core.page_map.geometry.dies =
    ap (λ (geometry : Geometry). geometry.dies) c.geometry-die-end.ensures
    ∙ ap (λ (core : Core). core.page_map.geometry.dies) c.array.ensures.state in
    let low = c.loop-die-test.true in
    record {
      does = does_more _ IsForDies _ _ _ c.loop-die.invariant.does c.give_window.ensures.does;
      gives = subst (λ (w : Windows). Gives g.I.Image.made (NoneBelow c.args.for_room (c.loop-die.die + 1)) w c.args.inner.now c.give_window.new.inner)
          (sym c.both-windows.ensures)
          (gives_more _ c.args.for_room c.loop-die.die _ _ _ c.loop-die.windows c.give_window.result (omega (arith, same, low))
          c.loop-die.invariant.does c.give_window.ensures.does c.loop-die.invariant.gives c.give_window.ensures.gives);
    }

pub returns-clause-does : goal.returns-clause-does
returns-clause-does g c = c.loop-die.invariant.does

pub returns-clause-gives : goal.returns-clause-gives
returns-clause-gives g c =
    let same : c.geometry-die-end.result.dies ≡ c.args.inner.now.locked.core.page_map.geometry.dies =
    ap (λ (geometry : Geometry). geometry.dies) c.geometry-die-end.ensures
    ∙ ap (λ (core : Core). core.page_map.geometry.dies) c.array.ensures.state in
    let high = c.loop-die-test.false in
    gives_all _ c.args.for_room c.loop-die.die _ _ c.loop-die.windows (omega (arith, same, high)) c.loop-die.invariant.gives
