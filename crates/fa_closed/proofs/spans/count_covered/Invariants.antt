use Rattle.std.proofs.Common.{◌≡◌, take}
use Rattle.std.specs.List.{sum_by}
use Rattle.fa_closed.proofs.Covered.{overlap_of}
use Rattle.fa_closed.proofs.spans.count_covered.Given as goal

abbrev pub invariant-loop-index : goal.invariant-loop-index
invariant-loop-index g l = l.count ≡ sum_by (overlap_of l.from l.rounds) (take l.index l.spans.items)
