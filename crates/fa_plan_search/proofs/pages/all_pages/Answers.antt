use Rattle.std.proofs.Common.{arith, ◌∙◌}
use Rattle.fa_batch.proofs.Batches.{page_at}
use Rattle.fa_plan_search.specs.Reading.{no_entry}
use Rattle.fa_plan_search.proofs.ReachedPages.{pages_more}
use Rattle.fa_plan_search.proofs.pages.all_pages.Goals as goal

pub loop-index-preserved : goal.loop-index-preserved
loop-index-preserved g c =
    c.in_ok-push.ensures.ok
    ∙ pages_more c.args.batch.now c.loop-index.index c.loop-index.pages c.page.result (omega arith) c.loop-index.invariant
    (page_at c.args.batch.now c.loop-index.index c.page.result (omega arith) c.page.ensures no_entry)
