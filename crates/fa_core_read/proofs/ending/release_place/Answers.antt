use Rattle.fa_core_bookings.specs.Bookings.{calendar_of}
use Rattle.fa_core_read.proofs.GivenUp.{none_given, one_given}
use Rattle.fa_core_read.proofs.ending.release_place.Goals as goal
use Rattle.std.proofs.Common.{ap, sym, ◌∙◌}
use Rattle.std.specs.Prelude.{is_some}

pub returns-then-is_some : goal.returns-then-is_some
returns-then-is_some g c = c.release.ensures ∙ one_given c.args.place (calendar_of c.args.bookings.now)

pub returns-else-is_some : goal.returns-else-is_some
returns-else-is_some g c =
    none_given c.args.place (calendar_of c.args.bookings.now)
    (ap is_some (sym c.booking.ensures) ∙ sym c.is_some.ensures ∙ c.if-is_some.false)
