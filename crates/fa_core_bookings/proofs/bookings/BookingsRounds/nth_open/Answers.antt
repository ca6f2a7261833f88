use Rattle.fa_core_bookings.specs.Found.{taken_is}
use Rattle.fa_types.specs.Open.{IsNthOpen}
use Rattle.std.proofs.Common.{Bool, subst, ℕ}
use Rattle.fa_core_bookings.proofs.bookings.BookingsRounds.nth_open.Goals as goal

pub returns : goal.returns
returns g c =
    subst (λ (f : ℕ → ℕ → Bool). IsNthOpen c.args.self.now.calendar.current f c.args.die.0 c.args.n c.nth_open.result.0)
    (λ i die. taken_is c.args.self.now die i) c.nth_open.ensures
