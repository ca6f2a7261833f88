use Rattle.fa_laws.proofs.Jobs.{jobs_kept}
use Rattle.fa_laws.proofs.steps.a_sync_is_of_its_take.Goals as goal

pub returns : goal.returns
returns c old new act step = jobs_kept old act new step
