use Rattle.fa_workers.proofs.Rebuilds.{at_stage}
use Rattle.fa_workers.proofs.rebuild_events.turn.Goals as goal

pub returns-in-Looking-clause-rebuilds : goal.returns-in-Looking-clause-rebuilds
returns-in-Looking-clause-rebuilds g c = at_stage c.in-Looking.is c.look.ensures.rebuilds

pub returns-in-Reading-clause-rebuilds : goal.returns-in-Reading-clause-rebuilds
returns-in-Reading-clause-rebuilds g c = at_stage c.in-Reading.is c.read.ensures.rebuilds

pub returns-in-Reserving-clause-rebuilds : goal.returns-in-Reserving-clause-rebuilds
returns-in-Reserving-clause-rebuilds g c = at_stage c.in-Reserving.is c.reserve.ensures.rebuilds

pub returns-in-Copying-clause-rebuilds : goal.returns-in-Copying-clause-rebuilds
returns-in-Copying-clause-rebuilds g c = at_stage c.in-Copying.is c.copy.ensures.rebuilds
