use Rattle.std.proofs.Common.{ap, ◌∙◌, arith, sym}
use Rattle.fa_types.specs.declared.numbers.Page.{Page}
use Rattle.fa_batch.proofs.Batches.{entry_here, page_at}
use Rattle.fa_batch.proofs.Indexed.{index_is}
use Rattle.fa_batch.proofs.batch.Batch.index_of.Goals as goal

pub returns-then-page : goal.returns-then-page
returns-then-page g c =
    let batch = c.args.self.now in
    let here = entry_here batch c.args.likely (omega arith) in
    let page = page_at batch c.args.likely c.page.result (omega arith) c.page.ensures here.0 in
    sym (index_is batch c.args.page.0 c.args.likely here.0 c.requires (omega arith) (ap (λ (p : Page). p.0) page ∙ c.if-page.true))
