use Rattle.fa_solo_job.specs.Inner.{Does}
use Rattle.fa_solo_job.specs.Deeds.{IsForDies}
use Rattle.fa_solo.proofs.jobs.make_jobs.Given as goal

abbrev pub invariant-loop-die : goal.invariant-loop-die
invariant-loop-die g l = Does g.I.Image.made IsForDies l.initial.inner l.inner
