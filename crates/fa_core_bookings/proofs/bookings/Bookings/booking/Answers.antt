use Rattle.std.proofs.Common.{sym, ◌∙◌}
use Rattle.fa_core_bookings.specs.Found.{get_booked}
use Rattle.fa_core_bookings.proofs.bookings.Bookings.booking.Goals as goal

pub returns-in-Some : goal.returns-in-Some
returns-in-Some g c = c.in-Some.ensures.value ∙ sym (get_booked c.args.self.now.booked.entries c.args.die.0 c.args.round.0)

pub returns-in-None : goal.returns-in-None
returns-in-None g c = c.in-None.ensures.value ∙ sym (get_booked c.args.self.now.booked.entries c.args.die.0 c.args.round.0)
