use Rattle.fa_solo_job.proofs.Chains.{does_more}
use Rattle.fa_solo_job.specs.Deeds.{IsForDies}
use Rattle.fa_solo.proofs.jobs.work_for.Goals as goal

pub loop-init : goal.loop-init
loop-init g c = c.work.ensures.does

pub loop-preserved : goal.loop-preserved
loop-preserved g c = does_more _ IsForDies _ _ _ c.loop.invariant c.work_again.ensures

pub returns-then-not-work_again : goal.returns-then-not-work_again
returns-then-not-work_again g c = does_more _ IsForDies _ _ _ c.loop.invariant c.work_again.ensures
