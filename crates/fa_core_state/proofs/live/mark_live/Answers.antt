use Rattle.fa_core_state.proofs.Numbers.{same_below}
use Rattle.fa_types.specs.declared.geometry.Geometry.{Geometry}
use Rattle.std.proofs.Common.{ap, arith}
use Rattle.fa_core_state.proofs.live.mark_live.Goals as goal

pub returns-clause-members : goal.returns-clause-members
returns-clause-members g c =
    let m = g.M.Map.view c.args.page_map.now in
    let bound = c.loop-die.invariant.0 in
    let fits = c.requires in
    let end = ap (λ (geometry : Geometry). geometry.dies) c.geometry-die-end.ensures in
    let all = c.loop-die-test.false in
    same_below c.loop-die.set.bound c.loop-die.set.low.items m.live
    (λ k low. c.loop-die.invariant.1 k (omega (arith, low, bound, fits, end, all)))
    (λ k is. let low = (g.met.M.Map.whole c.args.page_map.now).live k is in omega (arith, low, bound, fits))
