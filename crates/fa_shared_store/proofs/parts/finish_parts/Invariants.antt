use Rattle.fa_shared_request.specs.PartCounts.{PartsGoOn}
use Rattle.fa_shared_store.proofs.parts.finish_parts.Given as goal

abbrev pub invariant-loop : goal.invariant-loop
invariant-loop g l = PartsGoOn l.initial.seat l.initial.parts l.seat l.parts
