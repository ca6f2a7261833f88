use Rattle.fa_solo_job.specs.Inner.{Does, TidiesBy}
use Rattle.fa_solo_job.specs.Deeds.{IsForDies}
use Rattle.fa_solo.proofs.collecting.collect.Given as goal

abbrev pub invariant-loop-turns : goal.invariant-loop-turns
invariant-loop-turns g l = record {
  does : Does g.I.Image.made IsForDies l.initial.inner l.inner;
  tries : TidiesBy g.I.Image.made l.turns l.initial.inner l.inner;
}
