use Rattle.std.proofs.Common.{sym, ◌∙◌}
use Rattle.fa_core_bookings.specs.Found.{get_windows, past}
use Rattle.fa_calendar.specs.Calendar.{window_of}
use Rattle.fa_core_bookings.proofs.bookings.Bookings.window.Goals as goal

pub returns : goal.returns
returns g c = c.window.ensures ∙ sym (get_windows (window_of c.args.self.now.calendar) (past c.args.self.now.calendar) c.args.die.0)
