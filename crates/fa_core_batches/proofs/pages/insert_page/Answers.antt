use Rattle.fa_core_batches.proofs.Placed.{same_place}
use Rattle.fa_core_batches.specs.Pages.{page_at}
use Rattle.std.proofs.Common.{Some, ap, cond, ◌∙◌}
use Rattle.fa_core_batches.proofs.pages.insert_page.Goals as goal

pub returns-in-Ok-clause-ok : goal.returns-in-Ok-clause-ok
returns-in-Ok-clause-ok g c b p =
    c.in-Ok.ensures.updates.0 (b, p)
    ∙ ap (λ t. cond t (Some c.args.entry) (page_at c.args.pages.now.entries b p)) (same_place c.args.batch.0 c.args.page.0 b p)
