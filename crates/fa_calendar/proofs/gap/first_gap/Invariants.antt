use Rattle.std.proofs.Common.{◌≡◌, ℕ, ◌+◌, ◌*◌, ◌<◌, ◌≤◌, false, take, get_or}
use Rattle.fa_closed.specs.declared.spans.Span.{Span}
use Rattle.fa_closed.specs.Runs.{is_covered}
use Rattle.fa_calendar.specs.Merging.{total_rounds}
use Rattle.fa_types.specs.Windows.{are_open}
use Rattle.fa_calendar.proofs.gap.first_gap.Given as goal

abbrev pub invariant-loop-index : goal.invariant-loop-index
invariant-loop-index g l = record {
  later : l.now < l.first;
  near : l.first ≤ l.now + 1 + total_rounds (take l.index l.spans.items) + l.index * 64;
  before : (k : ℕ) (d : Span) → k < l.index → (get_or l.spans.items k d).last < l.first;
  earliest : (round : ℕ) → l.now < round → round < l.first → are_open (is_covered l.spans.items) l.count round ≡ false;
}
