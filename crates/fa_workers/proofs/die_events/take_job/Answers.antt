use Rattle.std.proofs.Common.{[], sym, subst}
use Rattle.fa_shared_lock.specs.Only.{NoJob, TakesJobs}
use Rattle.fa_shared_lock.specs.Seats.{number_of}
use Rattle.fa_workers.proofs.Held.{next_held}
use Rattle.fa_workers.specs.Held.{die_taken}
use Rattle.fa_workers.proofs.die_events.take_job.Goals as goal

pub returns-then-not-has_job-clause-takes : goal.returns-then-not-has_job-clause-takes
returns-then-not-has_job-clause-takes g c = NoJob

pub returns-then-not-is_die-clause-takes : goal.returns-then-not-is_die-clause-takes
returns-then-not-is_die-clause-takes g c = NoJob

pub returns-clause-takes : goal.returns-clause-takes
returns-clause-takes g c =
    subst (λ o. TakesJobs (number_of c.args.seat.now) c.args.locked.now.core [] c.take_next.new.locked.core (die_taken o)) (sym c.order_in.ensures)
    (next_held c.args.die.0 _ _ c.args.locked.now.core c.take_next.new.locked.core c.take_next.result c.take_next.ensures.takes)
