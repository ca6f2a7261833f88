use Rattle.std.proofs.Common.{subst, ℕ}
use Rattle.fa_shared_lock.specs.Only.{TakesJobs}
use Rattle.fa_shared_lock.specs.Seats.{number_of}
use Rattle.fa_workers.proofs.Held.{takes_then}
use Rattle.fa_workers.specs.Held.{numbers_of}
use Rattle.fa_workers.proofs.helping.take_in_round.Goals as goal

pub returns-then-is_empty-clause-takes : goal.returns-then-is_empty-clause-takes
returns-then-is_empty-clause-takes g c =
    let first = c.args.locked.now.core in
    let between = c.take_jobs.new.locked.core in
    let held = numbers_of c.args.dies.now.items in
    let dies = numbers_of c.take_jobs.new.dies.items in
    let new = c.take_behind_rounds.new in
    let Takes : ℕ → Type 0 = λ n. TakesJobs n between dies new.locked.core (numbers_of new.dies.items) in
    takes_then (number_of c.args.seat.now) first between held dies new.locked.core _ c.take_jobs.ensures.takes
    (subst Takes c.take_jobs.ensures.account.number c.take_behind_rounds.ensures.takes)
