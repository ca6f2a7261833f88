use Rattle.std.proofs.Common.{◌≡◌, take}
use Rattle.fa_calendar.proofs.die.copy_spans.Given as goal

abbrev pub invariant-loop-index : goal.invariant-loop-index
invariant-loop-index g l = l.copy.items ≡ take l.index l.spans.items
