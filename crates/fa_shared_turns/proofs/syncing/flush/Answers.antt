use Rattle.std.proofs.Common.{refl}
use Rattle.fa_machine.specs.Step.{FlushState}
use Rattle.fa_shared_lock.specs.Moves.{Moved}
use Rattle.fa_shared_lock.proofs.Turns.{no_rise}
use Rattle.fa_shared_turns.proofs.syncing.flush.Goals as goal

pub returns-clause-turned : goal.returns-clause-turned
returns-clause-turned g c =
    λ t. Moved (FlushState c.args.asked c.flush_state.result) c.flush_state.ensures.event (no_rise c.flush_state.ensures.commits)
    (refl, c.flushed.ensures) tt
