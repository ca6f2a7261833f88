use Rattle.std.proofs.Common.{refl}
use Rattle.fa_machine.specs.Step.{Commit}
use Rattle.fa_shared_lock.specs.Moves.{Folded}
use Rattle.fa_shared_lock.specs.Seats.{number_of}
use Rattle.fa_shared_lock.proofs.Turns.{after_fold}
use Rattle.fa_shared_turns.proofs.writing.commit_folded.Goals as goal

pub returns-in-Some-clause-turned : goal.returns-in-Some-clause-turned
returns-in-Some-clause-turned g c =
    λ t. Folded c.fold.new.locked.core (Commit c.args.held.claim.0 (number_of c.fold.new.seat) c.in-Some.answer) c.requires.full
    c.fold.ensures.event c.in-Some.ensures.some (after_fold _ c.fold.ensures.commits c.in-Some.ensures.made)
    (refl, c.fold.ensures.account.number, c.committed.ensures) tt
