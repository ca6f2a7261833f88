use Rattle.std.proofs.Common.{arith, inl, inr}
use Rattle.fa_solo.proofs.Orders.{by_any, by_fewer, by_more, halts_behind, tidies_none}
use Rattle.fa_solo_job.proofs.Chains.{does_more, does_none}
use Rattle.fa_solo_job.specs.Deeds.{IsForDies}
use Rattle.fa_solo.proofs.collecting.collect.Goals as goal

pub loop-turns-init : goal.loop-turns-init
loop-turns-init g c = record { does = does_none _ IsForDies _; tries = by_any _ _ _ (tidies_none _ _) }

pub loop-turns-preserved : goal.loop-turns-preserved
loop-turns-preserved g c = record {
  does = does_more _ IsForDies _ _ _ c.loop-turns.invariant.does c.collect_once.ensures.does;
  tries = by_more _ c.loop-turns.turns 1 _ _ _ c.loop-turns.invariant.tries c.in-Given.ensures.collects;
}

pub returns-in-Unwanted-clause-does : goal.returns-in-Unwanted-clause-does
returns-in-Unwanted-clause-does g c = does_more _ IsForDies _ _ _ c.loop-turns.invariant.does c.collect_once.ensures.does

pub returns-in-Refused-clause-does : goal.returns-in-Refused-clause-does
returns-in-Refused-clause-does g c = does_more _ IsForDies _ _ _ c.loop-turns.invariant.does c.collect_once.ensures.does

pub returns-in-Refused-clause-halted : goal.returns-in-Refused-clause-halted
returns-in-Refused-clause-halted g c = λ is. inl (halts_behind _ _ _ _ c.loop-turns.invariant.tries.tidies c.in-Refused.ensures.collects)

pub returns-clause-halted : goal.returns-clause-halted
returns-clause-halted g c = λ is. inr (by_fewer _ _ c.loop-turns.turns _ _ (omega arith) c.loop-turns.invariant.tries)
