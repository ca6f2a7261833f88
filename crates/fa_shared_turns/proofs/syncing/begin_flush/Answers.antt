use Rattle.fa_machine.specs.Step.{FlushBegin}
use Rattle.fa_shared_lock.specs.Moves.{Moved}
use Rattle.fa_shared_lock.proofs.Turns.{no_rise}
use Rattle.fa_shared_turns.proofs.syncing.begin_flush.Goals as goal

pub returns-clause-turned : goal.returns-clause-turned
returns-clause-turned g c =
    λ t. Moved (FlushBegin c.flush_begin.result) c.flush_begin.ensures.event (no_rise c.flush_begin.ensures.commits) c.begun.ensures tt
