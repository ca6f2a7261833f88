use Rattle.std.proofs.Common.{ap, arith, length, map, subst, sym, ◌+◌, ◌≡◌, ◌∙◌}
use Rattle.fa_machine.specs.State.{Core}
use Rattle.fa_shared_lock.proofs.Holds.{join_rest, rest_same}
use Rattle.fa_shared_lock.specs.Locked.{LockedState}
use Rattle.fa_shared_lock.specs.Only.{EndsJobs, NoEnd}
use Rattle.fa_shared_lock.specs.Rest.{LeavesRest}
use Rattle.fa_shared_lock.specs.declared.seat.Seat.{Seat}
use Rattle.fa_workers.proofs.Held.{ends_first, none_left, one_made}
use Rattle.fa_workers.specs.Held.{told_of}
use Rattle.fa_workers.proofs.helping.HelperHands.end.Goals as goal
use Rattle.fa_workers.proofs.helping.HelperHands.end.Goals.{in-Some, in_default}

pub loop-init : goal.loop-init
loop-init g c = (rest_same _ _, (λ last ends. ends), omega arith)

pub loop-preserved : goal.loop-preserved
loop-preserved g c =
    let first = c.args.locked.now.core in
    let all = map told_of c.args.self.now.memory.made.items in
    let left = map told_of c.pop.new.self.items in
    let Of : LockedState → Seat g.row.L.Denot → Type 0 = λ locked seat.
    LeavesRest c.args.locked.now c.args.seat.now locked seat
    × ((last : Core) → EndsJobs locked.core left last → EndsJobs first all last)
    × (length c.pop.new.self.items + (c.loop.counter + 1) ≡ length c.args.self.now.memory.made.items) in
    elim c.match-pop.branch [
      | in-Some w ↦
          subst (λ s. Of c.match-pop.locked s) (sym w.seat-is)
          (subst (λ l. Of l w.end_made-fault.new.seat) (sym w.locked-is) (
            join_rest c.loop.invariant.0 w.end_made-fault.ensures.account,
            ends_first first all left (told_of w.in-Some.job) c.loop.locked.core w.end_made-fault.new.locked.core
                (λ last rest. c.loop.invariant.1 last
                (subst (λ ts. EndsJobs c.loop.locked.core ts last)
                (sym (ap (λ jobs. map told_of jobs) w.in-Some.ensures.items ∙ one_made c.pop.new.self.items w.in-Some.job)) rest))
                w.end_made-fault.ensures.job,
            omega (arith, c.loop.invariant.2, w.in-Some.ensures.len),
          ))
      | in_default w ↦
          absurd (omega (arith, w.in_default.ensures.cases.0, c.loop-test.true, c.loop.invariant.2, c.len-end.ensures))
    ]

pub returns-clause-ends : goal.returns-clause-ends
returns-clause-ends g c =
    c.loop.invariant.1 c.loop.locked.core
    (subst (λ jobs. EndsJobs c.loop.locked.core (map told_of jobs) c.loop.locked.core)
    (sym (none_left c.loop.made.items (omega (arith, c.loop-test.false, c.loop.invariant.2, c.len-end.ensures)))) (NoEnd c.loop.locked.core))
