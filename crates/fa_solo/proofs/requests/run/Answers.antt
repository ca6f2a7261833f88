use Rattle.std.proofs.Common.{Some, ap, refl, ◌∙◌}
use Rattle.fa_shared_request.proofs.Counts.{made_new}
use Rattle.fa_solo.proofs.Asked.{refused_by}
use Rattle.fa_solo.proofs.Begun.{made_request}
use Rattle.fa_solo.specs.Calls.{Ended, Endless}
use Rattle.fa_solo.proofs.requests.run.Goals as goal

pub returns-in-Some-None-clause-made : goal.returns-in-Some-None-clause-made
returns-in-Some-None-clause-made g c =
    made_new _ _ _ _ c.args.request _ _ _ _ c.from.ensures c.in-Ok.ensures.tally c.finish.ensures.runs.0.counts
    (c.in-Some-None.ensures.ended ∙ ap Some c.in-Some-None.field-0-is) (λ _. refl)

pub returns-in-Some-None-clause-request : goal.returns-in-Some-None-clause-request
returns-in-Some-None-clause-request g c =
    made_request _ _ _ _ _ c.args.request _ _ _ _ c.from.ensures c.in-Ok.ensures.task c.in-Ok.ensures.stage c.in-Ok.ensures.answer
    c.finish.ensures.runs.0 (c.in-Some-None.ensures.ended ∙ ap Some c.in-Some-None.field-0-is)

pub returns-in-Some-Some-clause-made : goal.returns-in-Some-Some-clause-made
returns-in-Some-Some-clause-made g c =
    refused_by _ _ _ _ c.args.request _ _ c.from.ensures c.in-Ok.ensures.tally c.finish.ensures.runs.0.counts

pub returns-in-Some-Some-clause-request : goal.returns-in-Some-Some-clause-request
returns-in-Some-Some-clause-request g c =
    made_request _ _ _ _ _ c.args.request _ _ _ _ c.from.ensures c.in-Ok.ensures.task c.in-Ok.ensures.stage c.in-Ok.ensures.answer
    c.finish.ensures.runs.0 (Ended (c.in-Some-Some.ensures.ended ∙ ap Some c.in-Some-Some.field-0-is))

pub returns-clause-made : goal.returns-clause-made
returns-clause-made g c = refused_by _ _ _ _ c.args.request _ _ c.from.ensures c.in-Ok.ensures.tally c.finish.ensures.runs.0.counts

pub returns-clause-request : goal.returns-clause-request
returns-clause-request g c =
    made_request _ _ _ _ _ c.args.request _ _ _ _ c.from.ensures c.in-Ok.ensures.task c.in-Ok.ensures.stage c.in-Ok.ensures.answer
    c.finish.ensures.runs.0 (Endless refl (c.finish.ensures.runs.1 c.in-None.is))
