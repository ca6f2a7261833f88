use Rattle.std.proofs.Common.{Some, ap, ◌∙◌}
use Rattle.fa_solo.proofs.Asked.{none_made}
use Rattle.fa_solo.proofs.Begun.{ended_request, endless_request, gave_request, refused_request}
use Rattle.fa_solo.proofs.requests.run_read.Goals as goal

pub returns-in-Some-None-clause-made : goal.returns-in-Some-None-clause-made
returns-in-Some-None-clause-made g c = none_made _ _ _ _ _ c.in-Ok.ensures.tally c.finish.ensures.runs.0.counts

pub returns-in-Some-None-clause-gave : goal.returns-in-Some-None-clause-gave
returns-in-Some-None-clause-gave g c =
    gave_request _ _ _ _ _ _ _ _ _ c.from.ensures c.in-Ok.ensures.task c.in-Ok.ensures.stage c.in-Ok.ensures.answer c.finish.ensures.runs.0 _
    (c.in-Some-None.ensures.ended ∙ ap Some c.in-Some-None.field-0-is) c.handed_out.ensures.answer

pub returns-in-Some-None-clause-refused : goal.returns-in-Some-None-clause-refused
returns-in-Some-None-clause-refused g c =
    refused_request _ _ _ _ _ _ _ _ _ c.from.ensures c.in-Ok.ensures.task c.in-Ok.ensures.stage c.in-Ok.ensures.answer c.finish.ensures.runs.0 _
    (c.in-Some-None.ensures.ended ∙ ap Some c.in-Some-None.field-0-is) c.handed_out.ensures.refused

pub returns-in-Some-Some-clause-refused : goal.returns-in-Some-Some-clause-refused
returns-in-Some-Some-clause-refused g c =
    ended_request _ _ _ _ _ _ _ _ _ c.from.ensures c.in-Ok.ensures.task c.in-Ok.ensures.stage c.in-Ok.ensures.answer c.finish.ensures.runs.0 _ _
    (c.in-Some-Some.ensures.ended ∙ ap Some c.in-Some-Some.field-0-is) c.of_read.ensures

pub returns-in-None-clause-refused : goal.returns-in-None-clause-refused
returns-in-None-clause-refused g c =
    endless_request _ _ _ _ _ _ _ _ _ c.from.ensures c.in-Ok.ensures.task c.in-Ok.ensures.stage c.in-Ok.ensures.answer c.finish.ensures.runs.0
    (c.finish.ensures.runs.1 c.in-None.is)

pub returns-in-None-clause-made : goal.returns-in-None-clause-made
returns-in-None-clause-made g c = none_made _ _ _ _ _ c.in-Ok.ensures.tally c.finish.ensures.runs.0.counts
