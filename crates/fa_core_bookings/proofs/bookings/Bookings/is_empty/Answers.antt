use Rattle.fa_core_bookings.proofs.Booked.{no_bookings, no_entries}
use Rattle.fa_core_bookings.proofs.bookings.Bookings.is_empty.Goals as goal

pub returns : goal.returns
returns g c =
    let es = c.args.self.now.booked.entries in
    (λ is. no_bookings es (c.is_empty.ensures.0 is), λ none. c.is_empty.ensures.1 (no_entries es none))
