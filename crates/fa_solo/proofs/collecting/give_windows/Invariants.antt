use Rattle.fa_solo.proofs.Windows.{NoneBelow}
use Rattle.fa_solo.specs.Collecting.{Gives}
use Rattle.fa_solo_job.specs.Inner.{Does}
use Rattle.fa_solo_job.specs.Deeds.{IsForDies}
use Rattle.fa_solo.proofs.collecting.give_windows.Given as goal

abbrev pub invariant-loop-die : goal.invariant-loop-die
invariant-loop-die g l = record {
  does : Does g.I.Image.made IsForDies l.fn.inner l.inner;
  gives : Gives g.I.Image.made (NoneBelow l.for_room l.die) l.windows l.fn.inner l.inner;
}
