use Rattle.fa_solo_job.specs.Deeds.{IsMeanwhile}
use Rattle.fa_solo_job.specs.Inner.{Does}
use Rattle.std.proofs.Common.{false}
use Rattle.fa_solo.proofs.requests.collect_home.Given as goal

abbrev pub invariant-loop-looks : goal.invariant-loop-looks
invariant-loop-looks g l = Does g.I.Image.made (IsMeanwhile false) l.initial.inner l.inner
