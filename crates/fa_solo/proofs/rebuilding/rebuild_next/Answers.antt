use Rattle.std.proofs.Common.{refl}
use Rattle.fa_solo.proofs.Orders.{not_read, rebuilt, refused_batch, stays_open, torn}
use Rattle.fa_solo.proofs.rebuilding.rebuild_next.Goals as goal

pub returns-in_default : goal.returns-in_default
returns-in_default g c = (refl, c.in_default.ensures.none)

pub ask-requires : goal.ask-requires
ask-requires g c = record { page = c.in-Some.ensures.page; thin = c.in-Some.ensures.thin }

pub returns-in_default-ask : goal.returns-in_default-ask
returns-in_default-ask g c =
    refused_batch _ _ _ c.in-Some.thin.page.0 c.in_default-ask.ensures.none.0 c.in-Some.ensures.thin c.in_default-ask.ensures.none.1

pub end-answers-requires : goal.end-answers-requires
end-answers-requires g c =
    stays_open _ _ _ _ c.in-Some.thin.page.0 c.wait_for-state.ensures.waits.0
    (record { batch = c.in-Some-ask.batch; planned = c.in-Some-ask.ensures.some.0 }) c.in-Some-ask.ensures.some.1 c.wait_for-state.ensures.waits.1.0

pub returns-in-Ready : goal.returns-in-Ready
returns-in-Ready g c =
    rebuilt _ _ _ _ _ c.in-Some.thin.page.0 c.wait_for-state.ensures.waits.0
    (record { batch = c.in-Some-ask.batch; planned = c.in-Some-ask.ensures.some.0 }) _ c.in-Some.ensures.thin
    c.in-Some-ask.ensures.some.1 c.wait_for-state.ensures.waits.1.0 c.end-answers.ensures _ c.in-Some.thin.seq c.copy.result
    c.in-Some.ensures.number (c.wait_for-state.ensures.ready c.in-Ready.is) c.copy.ensures

pub returns-in-Torn : goal.returns-in-Torn
returns-in-Torn g c =
    torn _ _ _ _ _ c.in-Some.thin.page.0 c.wait_for-state.ensures.waits.0
    (record { batch = c.in-Some-ask.batch; planned = c.in-Some-ask.ensures.some.0 }) _ c.in-Some.ensures.thin
    c.in-Some-ask.ensures.some.1 c.wait_for-state.ensures.waits.1.0 c.end-answers.ensures

pub returns-in-Waiting : goal.returns-in-Waiting
returns-in-Waiting g c =
    not_read _ _ _ _ _ c.in-Some.thin.page.0 c.wait_for-state.ensures.waits.0
    (record { batch = c.in-Some-ask.batch; planned = c.in-Some-ask.ensures.some.0 }) _ c.in-Some.ensures.thin
    c.in-Some-ask.ensures.some.1 c.wait_for-state.ensures.waits.1.0 c.end-answers.ensures (c.wait_for-state.ensures.waits.1.1 c.in-Waiting.is)
