use Rattle.fa_core.proofs.array.Array.is_window_due.Given as goal
use Rattle.fa_core.specs.Array.{state_of}
use Rattle.fa_core_calls.specs.Windows.{lacks_window}
use Rattle.std.proofs.Common.{◌≡◌, ℕ, ◌<◌, false}

abbrev pub invariant-loop-die : goal.invariant-loop-die
invariant-loop-die g l = (k : ℕ) → k < l.die → lacks_window (state_of g.M.Map.view l.self) k ≡ false
