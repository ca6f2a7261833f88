use Rattle.std.proofs.Common.{◌≡◌, ℕ, ◌<◌, ◌&&◌, not, length}
use Rattle.fa_closed.specs.Runs.{closed_by as spans_close}
use Rattle.fa_calendar.specs.Dies.{closed_by, is_at}
use Rattle.fa_calendar.proofs.dies.spans_without.Given as goal

abbrev pub invariant-loop-number : goal.invariant-loop-number
invariant-loop-number g l = record {
  long : length l.all.items ≡ l.number;
  closed : (die round : ℕ) → die < l.number → spans_close l.all.items die round ≡ (closed_by l.dies.items die round && not (is_at l.without die round));
}
