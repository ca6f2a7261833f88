use Rattle.fa_core_batches.proofs.Placed.{eqb_swap}
use Rattle.fa_core_batches.specs.Pages.{list_at}
use Rattle.std.proofs.Common.{None, ap, cond, ◌∙◌}
use Rattle.fa_core_batches.proofs.lists.take_list.Goals as goal

pub returns-clause-left : goal.returns-clause-left
returns-clause-left g c b =
    c.remove.ensures.updates.0 b ∙ ap (λ t. cond t None (list_at c.args.lists.now.entries b)) (eqb_swap c.args.batch.0 b)
