use Rattle.fa_core_batches.proofs.Placed.{eqb_swap}
use Rattle.fa_core_batches.specs.Pages.{list_at}
use Rattle.std.proofs.Common.{Some, ap, cond, ◌∙◌}
use Rattle.fa_core_batches.proofs.lists.insert_list.Goals as goal

pub returns-in-Ok-clause-ok : goal.returns-in-Ok-clause-ok
returns-in-Ok-clause-ok g c b =
    c.in-Ok.ensures.updates.0 b
    ∙ ap (λ t. cond t (Some c.args.list) (list_at c.args.lists.now.entries b)) (eqb_swap c.args.batch b)
