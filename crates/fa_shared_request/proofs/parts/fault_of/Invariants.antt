use Rattle.std.proofs.Common.{◌≡◌, take}
use Rattle.std.specs.List.{sum_by}
use Rattle.fa_shared_request.specs.PartCounts.{refusals_in}
use Rattle.fa_shared_request.proofs.parts.fault_of.Given as goal

abbrev pub invariant-loop-part : goal.invariant-loop-part
invariant-loop-part g l = sum_by refusals_in (take l.part-index l.parts) ≡ 0
