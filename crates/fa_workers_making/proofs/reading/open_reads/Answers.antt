use Rattle.std.proofs.Common.{arith, ◌∙◌}
use Rattle.std.proofs.lemmas.List.{get_or-set_other, length-set}
use Rattle.fa_workers_making.proofs.Begun.{opened_here, opens_more, together_at}
use Rattle.fa_workers_making.proofs.reading.open_reads.Goals as goal

pub open_made-requires : goal.open_made-requires
open_made-requires g c =
    together_at c.args.made.now c.loop-index.made c.opened_together-together.result c.as_ref.result c.loop-index.index
    c.index-made-index.result c.as_ref.ensures.value c.opened_together-together.ensures
    (omega (arith, c.loop-index-test.true, c.loop-index.invariant.count))
    (c.loop-index.invariant.left c.loop-index.index c.index-made-index.result (omega arith))

pub loop-index-preserved : goal.loop-index-preserved
loop-index-preserved g c = record {
  count = length-set c.loop-index.made c.loop-index.index c.open_made.new.job ∙ c.loop-index.invariant.count;
  opened = opens_more c.args.made.now c.loop-index.made c.loop-index.index c.open_made.new.job
      (omega (arith, c.loop-index-test.true, c.loop-index.invariant.count))
      (λ m. opened_here c.args.made.now c.loop-index.made c.loop-index.index c.index-made-index.result m c.open_made.new.job
      (omega (arith, c.loop-index-test.true, c.loop-index.invariant.count)) (λ j. c.loop-index.invariant.left c.loop-index.index j (omega arith))
      c.open_made.ensures)
      c.loop-index.invariant.opened;
  left = λ k m past. get_or-set_other c.loop-index.made c.loop-index.index k c.open_made.new.job m (λ same. omega (arith, past, same))
      ∙ c.loop-index.invariant.left k m (omega (arith, past));
}
