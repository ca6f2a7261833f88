use Rattle.std.proofs.Common.{arith, inl, inr, sym, subst, ◌∙◌, ◌≤◌, ◌-◌}
use Rattle.fa_core_bookings.specs.Found.{taken_is}
use Rattle.fa_types.specs.Open.{max_closed, rounds_that}
use Rattle.fa_types.specs.Windows.{IsFull}
use Rattle.std.proofs.lemmas.Bool.{cases_lt, false≢true, le-leb, leb-true}
use Rattle.std.specs.Prelude.{◌+◌}
use Rattle.fa_core_bookings.proofs.bookings.Bookings.has_room.Goals as goal

pub returns-clause-room : goal.returns-clause-room
returns-clause-room g c is n =
    let low = leb-true _ _ is in
    let most = c.entries.ensures.most n in
    subst (λ f. rounds_that f c.args.self.now.calendar.current n + c.args.rounds ≤ max_closed) (taken_is c.args.self.now c.args.die.0)
    (omega (arith, low, most, c.requires))

pub returns-clause-full : goal.returns-clause-full
returns-clause-full g c is =
    subst (λ f. IsFull c.args.self.now.calendar.current f c.args.rounds) (taken_is c.args.self.now c.args.die.0)
    (elim (cases_lt (1048576 - c.args.rounds) c.entries.result) [
      | inl high ↦
          let reached = c.entries.ensures.reached in let few = c.requires in let at = reached.1 in
          (reached.0, omega (arith, high, at, few))
      | inr low ↦ absurd (false≢true (sym is ∙ le-leb _ _ low))
    ])
