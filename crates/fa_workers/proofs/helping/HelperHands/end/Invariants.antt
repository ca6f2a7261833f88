use Rattle.std.proofs.Common.{length, map, ◌+◌, ◌≡◌}
use Rattle.fa_machine.specs.State.{Core}
use Rattle.fa_shared_lock.specs.Only.{EndsJobs}
use Rattle.fa_shared_lock.specs.Rest.{LeavesRest}
use Rattle.fa_workers.specs.Held.{told_of}
use Rattle.fa_workers.proofs.helping.HelperHands.end.Given as goal

-- Where the jobs that are left end, all have ended.
abbrev pub invariant-loop : goal.invariant-loop
invariant-loop g l =
    LeavesRest l.initial.locked l.initial.seat l.locked l.seat
    × ((last : Core) → EndsJobs l.locked.core (map told_of l.made.items) last
    → EndsJobs l.initial.locked.core (map told_of l.initial.made.items) last)
    × (length l.made.items + l.counter ≡ length l.initial.made.items)
