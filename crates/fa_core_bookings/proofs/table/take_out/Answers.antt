use Rattle.fa_core_bookings.proofs.table.take_out.Goals as goal

pub returns-clause-now : goal.returns-clause-now
returns-clause-now g c d r = c.remove.ensures.updates.0 (d, r)
