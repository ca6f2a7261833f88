use Rattle.std.proofs.Common.{refl}
use Rattle.fa_solo_job.proofs.Chains.{does_spare}
use Rattle.fa_solo_job.specs.Deeds.{IsForRequests}
use Rattle.fa_solo.proofs.jobs.bring_in.Goals as goal

pub returns : goal.returns
returns g c = does_spare _ IsForRequests _ _ _ (λ die answer. tt) c.bring_in_spare.ensures.brings c.bring_in_spare.ensures.account refl refl
