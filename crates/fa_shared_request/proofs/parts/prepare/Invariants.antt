use Rattle.std.proofs.Common.{ℕ}
use Rattle.fa_shared_request.specs.Counts.{Counts}
use Rattle.fa_shared_request.specs.PartCounts.{tally_of_parts}
use Rattle.fa_shared_request.proofs.parts.prepare.Given as goal

abbrev pub invariant-loop-part : goal.invariant-loop-part
invariant-loop-part g l = (commits : ℕ) → Counts (tally_of_parts commits l.initial.part-items) (tally_of_parts commits l.part-items)
