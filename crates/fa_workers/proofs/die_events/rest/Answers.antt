use Rattle.fa_workers.specs.DieTurns.{LooksAgain}
use Rattle.fa_workers.proofs.die_events.rest.Goals as goal

pub returns-in-Pending-clause-rests : goal.returns-in-Pending-clause-rests
returns-in-Pending-clause-rests g c = LooksAgain c.advance.result c.in-Pending.is c.advance.ensures.event c.after_look.ensures
