use Rattle.std.proofs.Common.{refl}
use Rattle.fa_machine.specs.Step.{Reserve}
use Rattle.fa_shared_lock.specs.Moves.{Moved, Strayed}
use Rattle.fa_shared_lock.proofs.Turns.{no_rise}
use Rattle.fa_shared_turns.proofs.writing.reserve_data.Goals as goal

pub returns-in-Some-clause-turned : goal.returns-in-Some-clause-turned
returns-in-Some-clause-turned g c =
    λ t. Moved (Reserve c.args.held.claim.0 c.args.payload c.in-Some.answer) c.in-Some.ensures.some (no_rise c.in-Some.ensures.commits)
    (refl, refl, c.reserved.ensures.after) tt

pub returns-in-None-clause-turned : goal.returns-in-None-clause-turned
returns-in-None-clause-turned g c =
    λ t. Strayed c.in-None.ensures.none.1 c.in-None.ensures.commits refl c.in-None.ensures.none.0
