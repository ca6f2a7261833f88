use Rattle.std.proofs.Common.{◌≡◌, ◌+◌, length}
use Rattle.fa_shared_lock.specs.Seats.{commits_together}
use Rattle.fa_shared_lock.proofs.locked.take_in.Given as goal

-- what was taken in so far
abbrev pub invariant-loop-seat : goal.invariant-loop-seat
invariant-loop-seat g l =
    (l.rest.parts ≡ l.initial.rest.parts + length l.yielded) × (l.rest.amount ≡ l.initial.rest.amount + commits_together l.yielded)
