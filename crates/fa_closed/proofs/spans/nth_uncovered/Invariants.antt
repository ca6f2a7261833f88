use Rattle.std.proofs.Common.{◌≡◌, ◌+◌, ◌-◌, drop}
use Rattle.fa_closed.proofs.Covered.{nth_from}
use Rattle.fa_closed.proofs.spans.nth_uncovered.Given as goal

abbrev pub invariant-loop-index : goal.invariant-loop-index
invariant-loop-index g l = nth_from l.from l.round (drop l.index l.spans.items) ≡ nth_from l.from (l.from + (l.n - 1)) l.spans.items
