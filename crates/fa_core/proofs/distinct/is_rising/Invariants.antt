use Rattle.fa_core.proofs.Rising.{number_at}
use Rattle.std.proofs.Common.{ℕ, ◌<◌}
use Rattle.fa_core.proofs.distinct.is_rising.Given as goal

abbrev pub invariant-loop-i : goal.invariant-loop-i
invariant-loop-i l = (j k : ℕ) → j < k → k < l.i → number_at l.pages j < number_at l.pages k
