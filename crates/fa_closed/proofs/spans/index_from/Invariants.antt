use Rattle.std.proofs.Common.{ℕ, ◌-◌, ◌<◌, ◌≤◌, length, get_or}
use Rattle.fa_closed.specs.declared.spans.Span.{Span}
use Rattle.fa_closed.proofs.spans.index_from.Given as goal

abbrev pub invariant-loop-low : goal.invariant-loop-low
invariant-loop-low g l = record {
  ordered : l.low ≤ l.high;
  within : l.high ≤ length l.spans.items;
  before : (i : ℕ) (d : Span) → i < l.low → (get_or l.spans.items i d).last < l.round;
  after : (i : ℕ) (d : Span) → l.high ≤ i → i < length l.spans.items → l.round ≤ (get_or l.spans.items i d).last;
}

abbrev pub decreases-loop-low : goal.decreases-loop-low
decreases-loop-low g l = l.high - l.low
