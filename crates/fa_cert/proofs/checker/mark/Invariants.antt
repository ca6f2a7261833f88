use Rattle.std.proofs.Common.{◌≡◌, ℕ, ◌||◌, false, take, slice_index_or}
use Rattle.fa_batch_terms.specs.Batch.{is_among}
use Rattle.fa_cert.proofs.checker.mark.Given as goal

abbrev pub invariant-loop-die : goal.invariant-loop-die
invariant-loop-die l = (die : ℕ) → slice_index_or l.marks die false ≡ (slice_index_or l.initial.marks die false || is_among (take l.die-index l.dies) die)
