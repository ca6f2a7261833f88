use Rattle.std.proofs.Common.{◌≡◌, take}
use Rattle.fa_plan.proofs.note.copy_shortage.Given as goal

abbrev pub invariant-loop-page : goal.invariant-loop-page
invariant-loop-page g l = l.copy ≡ take l.page-index l.pages
