use Rattle.fa_machine.specs.Step.{CommitCopy}
use Rattle.fa_workers.specs.Rebuilding.{Moved}
use Rattle.fa_workers.proofs.rebuild_events.copy.Goals as goal

pub returns-in-Some-clause-rebuilds : goal.returns-in-Some-clause-rebuilds
returns-in-Some-clause-rebuilds g c = Moved (CommitCopy c.in-Some.answer) c.in-Some.ensures.some c.after_commit.ensures
