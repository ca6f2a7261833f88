use Rattle.std.proofs.Common.{sym, ◌∙◌}
use Rattle.fa_batch_terms.proofs.Parts.{nothing}
use Rattle.fa_core_bookings.specs.Booked.{booking_at}
use Rattle.fa_core_bookings.specs.Found.{get_booked, window_is}
use Rattle.fa_core_bookings.proofs.bookings.Bookings.busy_from.Goals as goal

pub returns-clause-bookings : goal.returns-clause-bookings
returns-clause-bookings g c die round low high =
    get_booked c.args.self.now.booked.entries die round
    ∙ nothing (booking_at c.args.self.now.booked.entries die round)
    (sym (c.args.self.now.agree die round) ∙ c.busy_from.ensures.booked die round low high)

pub returns-clause-windows : goal.returns-clause-windows
returns-clause-windows g c die low high = sym (window_is c.args.self.now die) ∙ c.busy_from.ensures.windows die low high
