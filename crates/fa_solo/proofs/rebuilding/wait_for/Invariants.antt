use Rattle.fa_solo_job.specs.Inner.{AwaitsBatch}
use Rattle.fa_solo.proofs.rebuilding.wait_for.Given as goal

abbrev pub invariant-loop-looks : goal.invariant-loop-looks
invariant-loop-looks g l = AwaitsBatch g.I.Image.made l.batch.0 l.looks l.initial.inner l.inner
