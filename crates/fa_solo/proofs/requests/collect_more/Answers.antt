use Rattle.fa_solo_job.proofs.Chains.{does_more, does_wider, for_requests}
use Rattle.fa_solo_job.specs.Deeds.{IsForDies, IsForRequests}
use Rattle.fa_solo.proofs.requests.collect_more.Goals as goal

pub returns-then-matches : goal.returns-then-matches
returns-then-matches g c = does_wider _ IsForDies IsForRequests for_requests _ _ c.give_windows-windows.ensures.does

pub returns : goal.returns
returns g c =
    does_more _ IsForRequests _ _ _ (does_wider _ IsForDies IsForRequests for_requests _ _ c.give_windows-windows.ensures.does) c.work_at_once.ensures
