use Rattle.std.proofs.Common.{map, refl}
use Rattle.fa_machine.specs.Step.{EndBatch}
use Rattle.fa_shared_lock.specs.Moves.{Moved}
use Rattle.fa_shared_lock.proofs.Turns.{no_rise}
use Rattle.fa_shared_turns.proofs.reading.end.Goals as goal

pub returns-in-Some-clause-turned : goal.returns-in-Some-clause-turned
returns-in-Some-clause-turned g c =
    λ t. Moved (EndBatch c.args.batch.0 (map (λ e. (e.0.0, e.1.items)) c.in-Some.answers.items)) c.in-Some.ensures.some
    (no_rise c.in-Some.ensures.commits) (refl, (refl, refl)) c.requires
