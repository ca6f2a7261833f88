use Rattle.std.proofs.Common.{◌≡◌, ℕ, ◌<◌, ◌≤◌, [], length, take, get_or}
use Rattle.std.specs.List.{AllByRecursion}
use Rattle.fa_closed.specs.declared.closed.Run.{Run}
use Rattle.fa_closed.specs.Runs.{any_closes, closed_by}
use Rattle.fa_closed.proofs.closed.spans_of.Given as goal

abbrev pub invariant-loop-run : goal.invariant-loop-run
invariant-loop-run g l =
    (length l.dies.items ≡ 256)
    × ((die round : ℕ) → closed_by l.dies.items die round ≡ any_closes (take l.run-index l.runs) die round)
    × ((die j : ℕ) (d : Run) → l.run-index ≤ j → j < length l.runs → AllByRecursion (λ s. s.first ≤ (get_or l.runs j d).first.0) (get_or l.dies.items die []))
