use Rattle.fa_shared_request.specs.PartCounts.{PartsGoOn}
use Rattle.fa_shared_turns.proofs.parts.turn_all.Given as goal

abbrev pub invariant-loop-part : goal.invariant-loop-part
invariant-loop-part g l = PartsGoOn l.initial.seat l.initial.part-items l.seat l.part-items
