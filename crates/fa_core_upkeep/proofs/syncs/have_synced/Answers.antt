use Rattle.fa_core_state.proofs.Below.{all_pass, one_fails}
use Rattle.fa_core_upkeep.proofs.syncs.have_synced.Goals as goal
use Rattle.fa_machine.specs.Flushing.{has_synced}
use Rattle.fa_core_state.specs.Core.{core_of}
use Rattle.fa_types.specs.declared.geometry.Geometry.{Geometry}
use Rattle.std.proofs.Common.{◌≡◌, ◌<◌, ◌∙◌, ap, arith, below_more, subst, sym}

pub returns-then-not-has_synced : goal.returns-then-not-has_synced
returns-then-not-has_synced g c =
    let core = core_of g.M.Map.view c.args.state.now in
    let die = c.loop-die.die in
    let low : die < core.page_map.geometry.dies =
    subst (λ (k : Geometry). die < k.dies) c.geometry-die-end.ensures c.loop-die-test.true in
    sym (one_fails (has_synced core c.args.flush.now) core.page_map.geometry.dies die low
    (sym c.has_synced.ensures ∙ c.if-not-has_synced.true))

pub loop-die-preserved : goal.loop-die-preserved
loop-die-preserved g c = below_more _ _ c.loop-die.invariant (sym c.has_synced.ensures ∙ c.if-not-has_synced.false)

pub returns : goal.returns
returns g c =
    let core = core_of g.M.Map.view c.args.state.now in
    let same : c.loop-die.die ≡ core.page_map.geometry.dies =
    (let low = c.loop-die.auto.die-end in let high = c.loop-die-test.false in omega (arith, low, high))
    ∙ ap (λ (k : Geometry). k.dies) c.geometry-die-end.ensures in
    sym (all_pass (has_synced core c.args.flush.now) core.page_map.geometry.dies
    (λ k low. c.loop-die.invariant k (omega (arith, low, same))))
