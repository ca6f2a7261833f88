use Rattle.fa_core_batches.proofs.Placed.{same_place}
use Rattle.fa_core_batches.specs.Pages.{page_at}
use Rattle.std.proofs.Common.{None, ap, cond, ◌∙◌}
use Rattle.fa_core_batches.proofs.pages.take_page.Goals as goal

pub returns-clause-left : goal.returns-clause-left
returns-clause-left g c b p =
    c.remove.ensures.updates.0 (b, p)
    ∙ ap (λ t. cond t None (page_at c.args.pages.now.entries b p)) (same_place c.args.batch.0 c.args.page.0 b p)
