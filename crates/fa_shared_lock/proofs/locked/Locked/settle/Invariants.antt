use Rattle.std.proofs.Common.{◌≡◌, ◌+◌}
use Rattle.fa_shared_lock.specs.Only.{IsAdvance, MakesOnly}
use Rattle.fa_shared_lock.specs.Seats.{commits_with, number_of}
use Rattle.fa_shared_lock.proofs.locked.Locked.settle.Given as goal

abbrev pub invariant-loop : goal.invariant-loop
invariant-loop g l = (l.self ≡ record l.initial.self { core = l.self.core })
    × (commits_with l.seat ≡ commits_with l.initial.seat) × (number_of l.seat ≡ number_of l.initial.seat)
    × MakesOnly IsAdvance l.initial.self.core l.self.core
    × (l.self.core.calendar.round ≡ l.initial.self.core.calendar.round + l.counter)
