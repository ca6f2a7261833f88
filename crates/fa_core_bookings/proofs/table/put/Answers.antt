use Rattle.fa_core_bookings.proofs.table.put.Goals as goal

pub returns-in-Ok-clause-now : goal.returns-in-Ok-clause-now
returns-in-Ok-clause-now g c d r = c.in-Ok.ensures.updates.0 (d, r)
