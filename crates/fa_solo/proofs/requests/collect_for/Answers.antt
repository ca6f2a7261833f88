use Rattle.std.proofs.Common.{false}
use Rattle.fa_solo.proofs.Asked.{runs_more, runs_refused, runs_time}
use Rattle.fa_solo_job.proofs.Chains.{does_wider, for_requests}
use Rattle.fa_solo_job.specs.Deeds.{IsForDies, IsForRequests}
use Rattle.fa_solo.proofs.requests.collect_for.Goals as goal

pub returns-in-Some : goal.returns-in-Some
returns-in-Some g c = λ bytes.
    runs_more _ bytes _ _ _ _ _ _
    (runs_time _ bytes _ _ _ false c.requires.waits c.requires.flush
    (does_wider _ IsForDies IsForRequests for_requests _ _ c.give_room.ensures.does))
    (runs_refused _ bytes _ _ _ c.in-Some.fault c.in-Some.ensures.cause c.refuse_room.ensures.stage c.refuse_room.ensures.task
    c.refuse_room.ensures.answer)

pub returns-in_default : goal.returns-in_default
returns-in_default g c = λ bytes.
    runs_time _ bytes _ _ _ false c.requires.waits c.requires.flush
    (does_wider _ IsForDies IsForRequests for_requests _ _ c.give_room.ensures.does)
