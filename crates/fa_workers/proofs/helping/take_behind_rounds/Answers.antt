use Rattle.std.proofs.Common.{subst, ℕ}
use Rattle.fa_shared_lock.specs.Only.{NoJob, TakesJobs}
use Rattle.fa_shared_lock.specs.Seats.{number_of}
use Rattle.fa_workers.proofs.Held.{passes_beside, takes_then}
use Rattle.fa_workers.specs.Held.{numbers_of}
use Rattle.fa_workers.proofs.helping.take_behind_rounds.Goals as goal

pub returns-clause-takes : goal.returns-clause-takes
returns-clause-takes g c =
    let seat = number_of c.args.seat.now in
    let first = c.args.locked.now.core in
    let between = c.settle.new.self.core in
    let held = numbers_of c.args.dies.now.items in
    let Takes : ℕ → Type 0 = λ n. TakesJobs n between held c.take_jobs.new.locked.core (numbers_of c.take_jobs.new.dies.items) in
    takes_then seat first between held held c.take_jobs.new.locked.core _
    (passes_beside seat first first between held held NoJob c.settle.ensures.only)
    (subst Takes c.settle.ensures.number c.take_jobs.ensures.takes)
