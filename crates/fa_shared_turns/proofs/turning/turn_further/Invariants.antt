use Rattle.fa_shared_request.specs.Counts.{GoesOn}
use Rattle.fa_shared_turns.proofs.turning.turn_further.Given as goal

abbrev pub invariant-loop : goal.invariant-loop
invariant-loop g l = GoesOn l.initial.seat l.initial.op l.seat l.op
