use Rattle.fa_types.specs.declared.numbers.Die.{Die}
use Rattle.std.proofs.Common.{ap, refl}
use Rattle.fa_workers.proofs.Dies.{took}
use Rattle.fa_workers.specs.DieTurns.{Took, TookNone}
use Rattle.fa_workers.proofs.die_events.take_next.Goals as goal

pub returns-in-Some-clause-takes : goal.returns-in-Some-clause-takes
returns-in-Some-clause-takes g c =
    Took c.in-Some.order refl (ap (λ (d : Die). d.0) c.in-Some.ensures.die) (took c.make_room.ensures.folds c.make_room.ensures.rest.number c.in-Some.ensures.event)

pub returns-in-None-clause-takes : goal.returns-in-None-clause-takes
returns-in-None-clause-takes g c =
    TookNone c.take_order.new.locked.core (took c.make_room.ensures.folds c.make_room.ensures.rest.number c.in-None.ensures.event)
    c.rest.ensures.rests
