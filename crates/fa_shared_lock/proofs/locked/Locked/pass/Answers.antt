use Rattle.fa_core_calls.specs.Calls.{Makes}
use Rattle.fa_core_calls.specs.declared.call.Call.{Call}
use Rattle.fa_shared_lock.proofs.Only.{next_round, none_passes, one_advance}
use Rattle.fa_shared_lock.proofs.locked.Locked.pass.Goals as goal
use Rattle.fa_shared_lock.specs.Seats.{number_of}
use Rattle.std.proofs.Common.{subst, sym, ◌∙◌}

pub returns-clause-only : goal.returns-clause-only
returns-clause-only g c =
    one_advance c.args.self.now.core c.step.new.self.core (number_of c.args.seat.now) c.step.result
    (subst (λ (call : Call g.row.A.Denot). Makes c.args.self.now.core (number_of c.args.seat.now) call c.step.result c.step.new.self.core) c.plain.ensures
    c.step.ensures.event)

pub returns-clause-passed : goal.returns-clause-passed
returns-clause-passed g c is =
    next_round c.args.self.now.core c.step.new.self.core (number_of c.args.seat.now) c.step.result
    (subst (λ (call : Call g.row.A.Denot). Makes c.args.self.now.core (number_of c.args.seat.now) call c.step.result c.step.new.self.core) c.plain.ensures
    c.step.ensures.event)
    (sym c.has_passed.ensures ∙ is)

pub returns-clause-refused : goal.returns-clause-refused
returns-clause-refused g c is =
    none_passes c.args.self.now.core c.step.new.self.core (number_of c.args.seat.now) c.step.result
    (subst (λ (call : Call g.row.A.Denot). Makes c.args.self.now.core (number_of c.args.seat.now) call c.step.result c.step.new.self.core) c.plain.ensures
    c.step.ensures.event)
    (sym c.has_passed.ensures ∙ is)
