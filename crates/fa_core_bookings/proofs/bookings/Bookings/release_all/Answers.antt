use Rattle.fa_core_bookings.proofs.Exchanged.{all_booked, gone, swept_agree}
use Rattle.fa_core_bookings.proofs.Windows.{windows_stay}
use Rattle.fa_core_bookings.specs.Found.{past}
use Rattle.fa_calendar.specs.Calendar.{is_booked}
use Rattle.fa_core_bookings.proofs.bookings.Bookings.release_all.Goals as goal

pub release_all-requires : goal.release_all-requires
release_all-requires g c = all_booked c.args.self.now c.args.places.now c.requires

pub invariant_of-self : goal.invariant_of-self
invariant_of-self g c = record {
  agree = swept_agree c.args.self.now c.args.places.now c.take_out_all.new.booked.entries (is_booked c.release_all.new.self)
      c.release_all.ensures.booked c.take_out_all.ensures.now;
}

pub returns : goal.returns
returns g c = λ i. record {
  round = c.release_all.ensures.current i;
  bookings = gone c.args.self.now c.args.places.now c.take_out_all.new.booked.entries c.take_out_all.ensures.now i;
  windows = windows_stay _ _ (past c.args.self.now.calendar) (past c.release_all.new.self) c.release_all.ensures.windows i;
}
