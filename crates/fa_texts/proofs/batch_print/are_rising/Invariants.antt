use Rattle.std.proofs.Common.{ℕ, ◌+◌, ◌<◌, map, get_or}
use Rattle.fa_texts.proofs.batch_print.are_rising.Given as goal

abbrev pub invariant-loop-index : goal.invariant-loop-index
invariant-loop-index l = (k : ℕ) → k + 1 < l.index → get_or (map (λ d. d.0) l.dies) k 0 < get_or (map (λ d. d.0) l.dies) (k + 1) 0
