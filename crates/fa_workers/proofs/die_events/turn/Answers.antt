use Rattle.std.proofs.Common.{refl}
use Rattle.fa_workers.proofs.Dies.{same_seat}
use Rattle.fa_workers.specs.DieTurns.{Rose, Stayed}
use Rattle.fa_workers.proofs.die_events.turn.Goals as goal

pub returns-in-Ok-clause-turns : goal.returns-in-Ok-clause-turns
returns-in-Ok-clause-turns g c = Rose c.in-Ok.field-0 refl c.in-Ok.ensures.event

pub returns-in-Err-clause-turns : goal.returns-in-Err-clause-turns
returns-in-Err-clause-turns g c =
    Stayed c.in-Err.refused c.advance.new.locked.core c.in-Err.ensures.event
    (same_seat c.advance.ensures.rest.number c.take_next.ensures.takes)
