use Rattle.fa_shared_lock.specs.Only.{TakesJobs}
use Rattle.fa_shared_lock.specs.Rest.{LeavesRest}
use Rattle.fa_shared_lock.specs.Seats.{number_of}
use Rattle.fa_workers.specs.Held.{numbers_of}
use Rattle.fa_workers.proofs.helping.take_jobs.Given as goal

abbrev pub invariant-loop-number : goal.invariant-loop-number
invariant-loop-number g l =
    LeavesRest l.initial.locked l.initial.seat l.locked l.seat
    × TakesJobs (number_of l.initial.seat) l.initial.locked.core (numbers_of l.initial.dies.items) l.locked.core (numbers_of l.dies.items)
