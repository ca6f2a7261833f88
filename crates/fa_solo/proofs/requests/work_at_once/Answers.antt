use Rattle.fa_solo_job.proofs.Chains.{does_more, does_wider, for_requests}
use Rattle.fa_solo_job.specs.Deeds.{IsForDies, IsForRequests}
use Rattle.fa_solo.proofs.requests.work_at_once.Goals as goal

pub returns : goal.returns
returns g c = does_more _ IsForRequests _ _ _ (does_wider _ IsForDies IsForRequests for_requests _ _ c.work_for-worked.ensures) c.bring_in.ensures
