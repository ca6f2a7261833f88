use Rattle.fa_solo_job.proofs.Chains.{does_none}
use Rattle.fa_solo_job.specs.Deeds.{IsForDies}
use Rattle.fa_solo.proofs.jobs.work_again.Goals as goal

pub returns-then-not-is_read : goal.returns-then-not-is_read
returns-then-not-is_read g c = does_none _ IsForDies _
