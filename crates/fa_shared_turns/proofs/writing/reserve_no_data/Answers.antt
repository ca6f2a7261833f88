use Rattle.std.proofs.Common.{refl}
use Rattle.fa_machine.specs.Step.{ReserveHole}
use Rattle.fa_shared_lock.specs.Moves.{Moved, Strayed}
use Rattle.fa_shared_lock.proofs.Turns.{barred_hole, no_rise}
use Rattle.fa_shared_turns.proofs.writing.reserve_no_data.Goals as goal

pub returns-in-Some-clause-turned : goal.returns-in-Some-clause-turned
returns-in-Some-clause-turned g c =
    λ t. Moved (ReserveHole c.args.held.claim.0 c.in-Some.answer) c.in-Some.ensures.some (no_rise c.in-Some.ensures.commits)
    (refl, c.reserved.ensures.after) tt

pub returns-in-None-clause-turned : goal.returns-in-None-clause-turned
returns-in-None-clause-turned g c =
    λ t. Strayed c.in-None.ensures.none.1 c.in-None.ensures.commits refl
    (barred_hole c.args.locked.now.core c.args.held.claim.0 c.in-None.ensures.none.0)
