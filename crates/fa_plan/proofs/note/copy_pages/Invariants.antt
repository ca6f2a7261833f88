use Rattle.std.proofs.Common.{◌≡◌, take}
use Rattle.fa_plan.proofs.note.copy_pages.Given as goal

abbrev pub invariant-pages : goal.invariant-pages
invariant-pages g l = l.copy ≡ take l.index l.batch
