use Rattle.std.proofs.Common.{ap, sym, ◌∙◌}
use Rattle.fa_core_bookings.specs.Found.{past}
use Rattle.fa_core_bookings.proofs.Booked.{eqb_swap, flipped, left, some_flipped}
use Rattle.fa_core_bookings.specs.Booked.{booking_at}
use Rattle.fa_core_bookings.proofs.Windows.{window_goes}
use Rattle.std.specs.Prelude.{is_some, not, ◌&&◌, ◌==◌}
use Rattle.fa_core_bookings.proofs.bookings.Bookings.drop_die.Goals as goal

pub invariant_of-self : goal.invariant_of-self
invariant_of-self g c = record {
  agree = λ d r. c.drop_die.ensures.booked d r ∙ ap (λ b. not (c.args.die.0 == d) && b) (c.args.self.now.agree d r)
      ∙ ap (λ b. not b && is_some (booking_at c.args.self.now.booked.entries d r)) (eqb_swap c.args.die.0 d)
      ∙ sym (ap is_some (c.forget_die.ensures d r) ∙ some_flipped (d == c.args.die.0) (booking_at c.args.self.now.booked.entries d r));
}

pub returns : goal.returns
returns g c = λ i. record {
  round = c.drop_die.ensures.current i;
  bookings = left c.args.self.now.booked.entries c.forget_die.new.booked.entries (λ place. not (place.0 == c.args.die.0))
      (λ d r. c.forget_die.ensures d r ∙ flipped (d == c.args.die.0) (booking_at c.args.self.now.booked.entries d r)) i;
  windows = window_goes _ _ (past c.args.self.now.calendar) (past c.drop_die.new.self) c.args.die.0 c.drop_die.ensures.windows i;
}
