use Rattle.fa_solo.proofs.jobs.is_collected.Goals as goal

pub returns-then-has_step : goal.returns-then-has_step
returns-then-has_step g c = λ is. c.has_step.ensures c.if-has_step.true
