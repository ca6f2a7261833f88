use Rattle.std.proofs.Common.{ap, refl, sym, ◌∙◌}
use Rattle.fa_core_bookings.specs.Found.{get_booked}
use Rattle.fa_core_bookings.proofs.Booked.{inserted, still_there}
use Rattle.fa_core_bookings.specs.Booked.{windows_in}
use Rattle.fa_calendar.specs.Calendar.{window_of}
use Rattle.std.proofs.lemmas.Bool.{false≢true}
use Rattle.std.specs.Prelude.{is_some}
use Rattle.fa_core_bookings.proofs.bookings.Bookings.start.Goals as goal

pub put-requires : goal.put-requires
put-requires g c none =
    absurd (false≢true (sym none ∙ sym (ap is_some (get_booked c.args.self.now.booked.entries c.args.die.0 c.args.round.0)) ∙ c.requires))

pub invariant_of-self : goal.invariant_of-self
invariant_of-self g c = record {
  agree = λ die round. c.args.self.now.agree die round
      ∙ sym (still_there c.args.self.now.booked.entries c.put.new.booked.entries c.args.die.0 c.args.round.0 _ c.put.ensures.now
      refl (sym (ap is_some (get_booked c.args.self.now.booked.entries c.args.die.0 c.args.round.0)) ∙ c.requires) die round);
}

pub returns : goal.returns
returns g c = λ i. record {
  round = c.args.self.now.calendar.current;
  bookings = inserted c.args.self.now.booked.entries c.put.new.booked.entries c.args.die.0 c.args.round.0 _ c.put.ensures.now _
      refl i;
  windows = windows_in (window_of c.args.self.now.calendar);
}
