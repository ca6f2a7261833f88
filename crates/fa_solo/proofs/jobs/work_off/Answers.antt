use Rattle.fa_solo_job.proofs.Chains.{does_more, does_none}
use Rattle.fa_solo_job.specs.Deeds.{IsForDies}
use Rattle.fa_solo.proofs.jobs.work_off.Goals as goal

pub loop-init : goal.loop-init
loop-init g c = does_none _ IsForDies _

pub loop-preserved : goal.loop-preserved
loop-preserved g c = does_more _ IsForDies _ _ _ c.loop.invariant c.work.ensures.does

pub returns-then-not-work : goal.returns-then-not-work
returns-then-not-work g c = does_more _ IsForDies _ _ _ c.loop.invariant c.work.ensures.does
