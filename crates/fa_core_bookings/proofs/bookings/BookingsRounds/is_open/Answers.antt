use Rattle.fa_core_bookings.specs.Found.{taken_is}
use Rattle.fa_types.specs.Open.{IsOpen}
use Rattle.std.proofs.Common.{Bool, IsTrue, subst, ℕ}
use Rattle.std.specs.Prelude.{◌↔◌}
use Rattle.fa_core_bookings.proofs.bookings.BookingsRounds.is_open.Goals as goal

pub returns : goal.returns
returns g c =
    subst (λ (f : ℕ → ℕ → Bool). IsTrue c.is_open.result ↔ IsOpen c.args.self.now.calendar.current f c.args.die.0 c.args.round.0)
    (λ i die. taken_is c.args.self.now die i) c.is_open.ensures
