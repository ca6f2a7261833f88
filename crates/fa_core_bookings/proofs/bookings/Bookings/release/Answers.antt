use Rattle.std.proofs.Common.{ap, refl, sym, ◌∙◌}
use Rattle.fa_core_bookings.specs.Found.{get_booked, past}
use Rattle.fa_core_bookings.proofs.Booked.{others_there, removed}
use Rattle.fa_core_bookings.proofs.Windows.{windows_stay}
use Rattle.std.specs.Prelude.{is_some, not, ◌&&◌, ◌==◌}
use Rattle.fa_core_bookings.proofs.bookings.Bookings.release.Goals as goal

pub release-requires : goal.release-requires
release-requires g c =
    c.args.self.now.agree c.args.die.0 c.args.round.0
    ∙ sym (ap is_some (get_booked c.args.self.now.booked.entries c.args.die.0 c.args.round.0)) ∙ c.requires

pub invariant_of-self : goal.invariant_of-self
invariant_of-self g c = record {
  agree = λ die round. c.release.ensures.booked die round
      ∙ ap (λ b. b && not (c.args.die.0 == die && c.args.round.0 == round)) (c.args.self.now.agree die round)
      ∙ sym (others_there c.args.self.now.booked.entries c.take_out.new.booked.entries c.args.die.0 c.args.round.0 _
      c.take_out.ensures.now refl die round);
}

pub returns : goal.returns
returns g c = λ i. record {
  round = c.release.ensures.current i;
  bookings = removed c.args.self.now.booked.entries c.take_out.new.booked.entries c.args.die.0 c.args.round.0 _
      c.take_out.ensures.now refl i;
  windows = windows_stay _ _ (past c.args.self.now.calendar) (past c.release.new.self) c.release.ensures.windows i;
}
