use Rattle.fa_solo_job.specs.Inner.{TidiesBy}
use Rattle.fa_solo.proofs.rebuilding.put_in_order.Given as goal

abbrev pub invariant-loop-turns : goal.invariant-loop-turns
invariant-loop-turns g l = TidiesBy g.I.Image.made l.turns l.initial.inner l.inner
