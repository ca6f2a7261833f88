use Rattle.std.proofs.Common.{◌≡◌, ◌∙◌, ap, arith, refl, sym}
use Rattle.std.proofs.lemmas.Bool.{false≢true, ltb-true}
use Rattle.fa_machine.specs.State.{Core}
use Rattle.fa_solo.proofs.Windows.{none_more}
use Rattle.fa_types.specs.declared.geometry.Geometry.{Geometry}
use Rattle.fa_solo.proofs.collecting.is_unwanted.Goals as goal

pub loop-die-init : goal.loop-die-init
loop-die-init g c = λ is die low. absurd (omega (arith, low))

pub loop-die-preserved : goal.loop-die-preserved
loop-die-preserved g c =
    let same : c.geometry-die-end.result.dies ≡ c.args.inner.now.locked.core.page_map.geometry.dies =
    ap (λ (geometry : Geometry). geometry.dies) c.geometry-die-end.ensures
    ∙ ap (λ (core : Core). core.page_map.geometry.dies) c.array.ensures.state in
    let low = c.loop-die-test.true in
    λ is. none_more c.args.inner.now.locked.core c.loop-die.die (omega (arith, same, low)) (c.loop-die.invariant refl)
    (c.is_wanted.ensures.unwanted c.if-is_wanted.false refl)

pub returns-then-is_wanted-clause-no : goal.returns-then-is_wanted-clause-no
returns-then-is_wanted-clause-no g c = λ not none.
    let core : Core = c.args.inner.now.locked.core in
    absurd (false≢true (sym (none c.loop-die.die (ltb-true c.loop-die.die core.page_map.geometry.dies (c.is_wanted.ensures.die c.if-is_wanted.true)))
    ∙ c.is_wanted.ensures.wanted c.if-is_wanted.true))

pub returns-clause-yes : goal.returns-clause-yes
returns-clause-yes g c =
    let same : c.geometry-die-end.result.dies ≡ c.args.inner.now.locked.core.page_map.geometry.dies =
    ap (λ (geometry : Geometry). geometry.dies) c.geometry-die-end.ensures
    ∙ ap (λ (core : Core). core.page_map.geometry.dies) c.array.ensures.state in
    let high = c.loop-die-test.false in
    λ is die low. c.loop-die.invariant refl die (omega (arith, low, same, high))
