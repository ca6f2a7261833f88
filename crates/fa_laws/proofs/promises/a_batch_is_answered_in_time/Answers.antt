use Rattle.fa_laws.proofs.InTimes.{planned_until, reached_timely, ready_in_time, run_until}
use Rattle.fa_laws.proofs.promises.a_batch_is_answered_in_time.Goals as goal

pub returns : goal.returns
returns c w after last act batch until happenings reached happens planned run none passed_by =
    ready_in_time last.core batch until
    (run_until batch until after happenings last
    (planned_until w.core after.core act batch until happens.step.does happens.step.allows (reached_timely w reached) planned) run none) passed_by
