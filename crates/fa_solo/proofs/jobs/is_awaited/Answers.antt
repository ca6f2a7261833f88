use Rattle.fa_solo.proofs.jobs.is_awaited.Goals as goal

pub returns-clause-no : goal.returns-clause-no
returns-clause-no g c = λ not. c.is_read.ensures.no c.if-is_read.false
