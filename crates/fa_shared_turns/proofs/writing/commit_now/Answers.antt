use Rattle.std.proofs.Common.{refl}
use Rattle.fa_machine.specs.Step.{Commit}
use Rattle.fa_shared_lock.specs.Moves.{Moved}
use Rattle.fa_shared_lock.specs.Seats.{number_of}
use Rattle.fa_shared_turns.proofs.writing.commit_now.Goals as goal

pub returns-in-Some-clause-turned : goal.returns-in-Some-clause-turned
returns-in-Some-clause-turned g c =
    λ t. Moved (Commit c.args.held.claim.0 (number_of c.args.seat.now) c.in-Some.answer) c.in-Some.ensures.some c.in-Some.ensures.made
    (refl, refl, c.committed.ensures) tt
