use Rattle.std.proofs.Common.{ap, sym, ◌∙◌}
use Rattle.fa_core_bookings.specs.Found.{past}
use Rattle.fa_core_bookings.proofs.Booked.{left, some_left}
use Rattle.fa_core_bookings.proofs.Closed.{remains}
use Rattle.fa_core_bookings.specs.Booked.{booking_at}
use Rattle.fa_core_bookings.proofs.Windows.{windows_pass}
use Rattle.std.specs.Prelude.{is_some, nat_lt, ◌&&◌}
use Rattle.fa_core_bookings.proofs.bookings.Bookings.advance.Goals as goal

pub invariant_of-self : goal.invariant_of-self
invariant_of-self g c = record {
  agree = λ d r. c.advance.ensures.booked d r ∙ ap (λ b. nat_lt c.args.self.now.calendar.current r && b) (c.args.self.now.agree d r)
      ∙ sym (some_left (nat_lt c.args.self.now.calendar.current r) (booking_at c.args.self.now.booked.entries d r))
      ∙ sym (ap is_some (remains c.args.self.now c.forget_current.new.booked.entries c.forget_current.ensures d r));
}

pub returns : goal.returns
returns g c = λ i. record {
  round = c.advance.ensures.current i;
  bookings = left c.args.self.now.booked.entries c.forget_current.new.booked.entries
      (λ place. nat_lt c.args.self.now.calendar.current place.1)
      (remains c.args.self.now c.forget_current.new.booked.entries c.forget_current.ensures) i;
  windows = windows_pass _ _ (past c.args.self.now.calendar) (past c.advance.new.self) c.args.self.now.calendar.current
      c.advance.ensures.windows i;
}
