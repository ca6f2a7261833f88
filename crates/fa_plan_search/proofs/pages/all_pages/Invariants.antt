use Rattle.std.proofs.Common.{◌≡◌, take}
use Rattle.fa_plan_search.specs.Pages.{pages_of}
use Rattle.fa_plan_search.proofs.pages.all_pages.Given as goal

abbrev pub invariant-loop-index : goal.invariant-loop-index
invariant-loop-index g l = l.pages ≡ pages_of (take l.index l.batch)
