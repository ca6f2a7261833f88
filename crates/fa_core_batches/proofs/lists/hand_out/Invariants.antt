use Rattle.fa_core_batches.proofs.Handed.{Handed}
use Rattle.fa_core_batches.proofs.lists.hand_out.Given as goal

abbrev pub invariant-loop-page : goal.invariant-loop-page
invariant-loop-page g l = Handed l.batch.0 l.list l.page-index l.initial.pages.entries l.pages.entries l.initial.answers l.answers
