use Rattle.std.proofs.Common.{◌≡◌}
use Rattle.fa_shared_lock.specs.Seats.{commits_with, number_of}
use Rattle.fa_shared_store.proofs.running.pass_time.Given as goal

abbrev pub invariant-loop : goal.invariant-loop
invariant-loop g l = (commits_with l.seat ≡ commits_with l.initial.seat) × (number_of l.seat ≡ number_of l.initial.seat)
