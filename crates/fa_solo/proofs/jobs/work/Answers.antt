use Rattle.std.proofs.Common.{subst}
use Rattle.fa_solo.proofs.Awaited.{no_batch_waits, stuck_any}
use Rattle.fa_solo_job.proofs.Chains.{does_more}
use Rattle.fa_solo_job.specs.Deeds.{IsAwaited, IsForDies}
use Rattle.fa_solo.proofs.jobs.work.Goals as goal

pub returns-then-make_jobs-clause-does : goal.returns-then-make_jobs-clause-does
returns-then-make_jobs-clause-does g c = does_more _ IsForDies _ _ _ c.make_jobs.ensures c.pass_for.ensures

pub pass_round-requires : goal.pass_round-requires
pass_round-requires g c = subst IsAwaited c.array.ensures.state (c.is_awaited.ensures.yes c.if-not-is_awaited.false)

pub returns-then-not-is_awaited-clause-stuck : goal.returns-then-not-is_awaited-clause-stuck
returns-then-not-is_awaited-clause-stuck g c =
    λ not. no_batch_waits c.args.batch _ _ c.array.ensures.state (c.is_awaited.ensures.no c.if-not-is_awaited.true)

pub returns-clause-does : goal.returns-clause-does
returns-clause-does g c = does_more _ IsForDies _ _ _ c.make_jobs.ensures c.pass_round.ensures.does

pub returns-clause-stuck : goal.returns-clause-stuck
returns-clause-stuck g c = λ not. stuck_any c.args.batch _ (c.pass_round.ensures.stuck not)
