use Rattle.std.proofs.Common.{sym, ◌∙◌, arith}
use Rattle.fa_batch.proofs.Batches.{next_without_holder, next_named_before, next_fine}
use Rattle.fa_batch.proofs.batch.Batch.unsound.Goals as goal

pub returns-then-is_empty : goal.returns-then-is_empty
returns-then-is_empty g c =
    next_without_holder c.args.self.now c.loop-index.index c.holders_at.result.now c.loop-index.invariant (omega arith) c.holders_at.ensures
    c.page.result c.page.ensures (sym c.is_empty.ensures ∙ c.if-is_empty.true)

pub returns-then-is_named_before : goal.returns-then-is_named_before
returns-then-is_named_before g c =
    next_named_before c.args.self.now c.loop-index.index c.holders_at.result.now c.loop-index.invariant (omega arith) c.holders_at.ensures
    c.is_named_before.result c.is_named_before.ensures (sym c.is_empty.ensures ∙ c.if-is_empty.false)
    c.page-then-is_named_before.result c.page-then-is_named_before.ensures c.if-is_named_before.true

pub loop-index-preserved : goal.loop-index-preserved
loop-index-preserved g c =
    next_fine c.args.self.now c.loop-index.index c.holders_at.result.now c.loop-index.invariant (omega arith) c.holders_at.ensures
    c.is_named_before.result c.is_named_before.ensures (sym c.is_empty.ensures ∙ c.if-is_empty.false) c.if-is_named_before.false
