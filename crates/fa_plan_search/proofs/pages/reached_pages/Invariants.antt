use Rattle.fa_plan_search.specs.Pages.{AreReachedAmong}
use Rattle.fa_plan_search.proofs.pages.reached_pages.Given as goal

abbrev pub invariant-loop-index : goal.invariant-loop-index
invariant-loop-index g l = AreReachedAmong l.batch l.given l.walk l.index l.pages
