use Rattle.std.proofs.Common.{take}
use Rattle.fa_batch_terms.specs.Batch.{AreFine}
use Rattle.fa_batch.proofs.batch.Batch.unsound.Given as goal

abbrev pub invariant-loop-index : goal.invariant-loop-index
invariant-loop-index g l = AreFine (take l.index l.self)
