use Rattle.std.proofs.Common.{arith}
use Rattle.fa_solo.proofs.Asked.{runs_none, runs_ready, runs_step}
use Rattle.fa_solo.proofs.requests.finish.Goals as goal

pub loop-turns-init : goal.loop-turns-init
loop-turns-init g c = (runs_none _ c.args.bytes.now _ _, omega arith)

pub loop-turns-preserved : goal.loop-turns-preserved
loop-turns-preserved g c =
    runs_step _ c.args.bytes.now _ _ _ _ _ _ _ _ c.loop-turns.invariant
    (runs_ready _ c.args.bytes.now _ _ _ c.prepare.ensures.prepared c.prepare.ensures.task) _ (c.step.ensures c.args.bytes.now)

pub returns-clause-runs : goal.returns-clause-runs
returns-clause-runs g c = (c.loop-turns.invariant.0, λ none. omega (arith, c.loop-turns.invariant.1))
