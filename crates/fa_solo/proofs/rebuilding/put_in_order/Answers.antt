use Rattle.std.proofs.Common.{arith, inr}
use Rattle.fa_solo.proofs.Orders.{by_any, by_fewer, by_more, by_then, in_order, stops_behind, tidies_for_dies, tidies_for_requests, tidies_more}
use Rattle.fa_solo.proofs.Orders.{tidies_none}
use Rattle.fa_solo.proofs.rebuilding.put_in_order.Goals as goal

pub loop-turns-init : goal.loop-turns-init
loop-turns-init g c = by_any _ _ _ (tidies_none _ _)

pub loop-turns-preserved : goal.loop-turns-preserved
loop-turns-preserved g c =
    by_more _ c.loop-turns.turns 1 _ _ _
    (by_then _ c.loop-turns.turns _ _ _ (by_then _ c.loop-turns.turns _ _ _ c.loop-turns.invariant (tidies_for_requests _ _ _ c.bring_in.ensures))
    (tidies_for_dies _ _ _ c.collect.ensures.does)) c.in-Tried.ensures

pub returns-then-not-collect-clause-no : goal.returns-then-not-collect-clause-no
returns-then-not-collect-clause-no g c = λ is.
    stops_behind _ _ _ _ _ (tidies_more _ _ _ _ c.loop-turns.invariant.tidies (tidies_for_requests _ _ _ c.bring_in.ensures))
    (c.collect.ensures.halted c.if-not-collect.true)

pub returns-in-Nothing-clause-yes : goal.returns-in-Nothing-clause-yes
returns-in-Nothing-clause-yes g c = λ is.
    in_order _ _ _ _
    (tidies_more _ _ _ _ (tidies_more _ _ _ _ c.loop-turns.invariant.tidies (tidies_for_requests _ _ _ c.bring_in.ensures))
    (tidies_for_dies _ _ _ c.collect.ensures.does)) (c.collect.ensures.unwanted c.if-not-collect.false) c.in-Nothing.ensures

pub returns-in-Stopped-clause-no : goal.returns-in-Stopped-clause-no
returns-in-Stopped-clause-no g c = λ is.
    stops_behind _ _ _ _ _
    (tidies_more _ _ _ _ (tidies_more _ _ _ _ c.loop-turns.invariant.tidies (tidies_for_requests _ _ _ c.bring_in.ensures))
    (tidies_for_dies _ _ _ c.collect.ensures.does)) c.in-Stopped.ensures

pub returns-clause-no : goal.returns-clause-no
returns-clause-no g c = λ is. inr (by_fewer _ _ c.loop-turns.turns _ _ (omega arith) c.loop-turns.invariant)
