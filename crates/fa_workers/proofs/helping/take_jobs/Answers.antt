use Rattle.std.proofs.Common.{ap, subst, sym, List, Vec, [], ℕ, ◌++◌, ◌∙◌, ◌∷◌}
use Rattle.std.proofs.lemmas.List.{append-nil}
use Rattle.fa_shared_lock.proofs.Holds.{join_rest, rest_same}
use Rattle.fa_shared_lock.specs.Only.{NoJob, TakesJobs}
use Rattle.fa_shared_lock.specs.Seats.{number_of}
use Rattle.fa_types.specs.declared.numbers.Die.{Die}
use Rattle.fa_workers.proofs.Held.{one_held, takes_behind}
use Rattle.fa_workers.specs.Held.{die_taken, numbers_of}
use Rattle.fa_workers.proofs.helping.take_jobs.Goals as goal
use Rattle.fa_workers.proofs.helping.take_jobs.Goals.{in-Some, in_default}

pub loop-number-init : goal.loop-number-init
loop-number-init g c = (rest_same _ _, NoJob)

pub loop-number-preserved : goal.loop-number-preserved
loop-number-preserved g c =
    let seat = number_of c.args.seat.now in
    let first = c.args.locked.now.core in
    let old = c.loop-number.locked.core in
    let new = c.take_job.new.locked.core in
    let held = numbers_of c.args.dies.now.items in
    let before = numbers_of c.loop-number.dies.items in
    let Takes : ℕ → Type 0 = λ n. TakesJobs n old [] new (die_taken c.take_job.result) in
    let taken = takes_behind seat first old new held before (die_taken c.take_job.result) c.loop-number.invariant.1
    (subst Takes c.loop-number.invariant.0.number c.take_job.ensures.takes) in
    let Held : List ℕ → Type 0 = λ dies. TakesJobs seat first held new dies in (
      join_rest c.loop-number.invariant.0 c.take_job.ensures.account,
      elim c.match-take_job.branch [
        | in-Some w ↦ subst Held
            (ap (λ o. before ++ die_taken o) w.in-Some.is ∙ ap (λ (d : Die). before ++ d.0 ∷ []) (sym w.die.ensures)
            ∙ sym (one_held c.loop-number.dies.items w.die.result)
            ∙ sym (ap numbers_of w.add.ensures) ∙ sym (ap (λ (v : Vec Die g.row.A.Denot). numbers_of v.items) w.dies-is)) taken
        | in_default w ↦ subst Held
            (ap (λ o. before ++ die_taken o) w.in_default.is ∙ append-nil before
            ∙ sym (ap (λ (v : Vec Die g.row.A.Denot). numbers_of v.items) w.dies-is)) taken
      ],
    )
