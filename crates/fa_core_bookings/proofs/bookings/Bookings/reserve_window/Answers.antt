use Rattle.std.proofs.Common.{sym, subst, ◌∙◌, ◌≤◌}
use Rattle.fa_core_bookings.specs.Found.{get_windows, past, taken_is}
use Rattle.fa_core_bookings.proofs.Windows.{window_comes, windows_stay}
use Rattle.fa_calendar.specs.Calendar.{window_of}
use Rattle.fa_types.specs.Open.{max_closed, rounds_that}
use Rattle.fa_types.specs.Windows.{IsFirstWindow, IsFull}
use Rattle.std.specs.FinMap.{from_entries}
use Rattle.std.specs.Prelude.{◌+◌}
use Rattle.fa_core_bookings.proofs.bookings.Bookings.reserve_window.Goals as goal

pub reserve_window-requires-clause-none : goal.reserve_window-requires-clause-none
reserve_window-requires-clause-none g c =
    sym (get_windows (window_of c.args.self.now.calendar) (past c.args.self.now.calendar) c.args.die.0) ∙ c.requires.none

pub invariant_of-self : goal.invariant_of-self
invariant_of-self g c = record { agree = λ d r. c.reserve_window.ensures.booked d r ∙ c.args.self.now.agree d r }

pub returns-in-Ok-clause-first : goal.returns-in-Ok-clause-first
returns-in-Ok-clause-first g c =
    subst (λ f. IsFirstWindow c.args.self.now.calendar.current f c.args.rounds c.in-Ok.first.0) (taken_is c.args.self.now c.args.die.0)
    c.in-Ok.ensures.first

pub returns-in-Ok-clause-windows : goal.returns-in-Ok-clause-windows
returns-in-Ok-clause-windows g c = λ i. record {
  round = c.in-Ok.ensures.current i;
  bookings = from_entries c.args.self.now.booked.entries;
  windows = window_comes _ _ (past c.args.self.now.calendar) (past c.reserve_window.new.self) c.args.die.0 _ c.in-Ok.ensures.windows i;
}

pub returns-in-Ok-clause-fits : goal.returns-in-Ok-clause-fits
returns-in-Ok-clause-fits g c is n =
    subst (λ f. rounds_that f c.args.self.now.calendar.current n + c.args.rounds ≤ max_closed) (taken_is c.args.self.now c.args.die.0)
    (c.in-Ok.ensures.fits is n)

pub returns-in-Err-clause-full : goal.returns-in-Err-clause-full
returns-in-Err-clause-full g c is =
    subst (λ f. IsFull c.args.self.now.calendar.current f c.args.rounds) (taken_is c.args.self.now c.args.die.0) (c.in-Err.ensures.full is)

pub returns-in-Err-clause-no_memory : goal.returns-in-Err-clause-no_memory
returns-in-Err-clause-no_memory g c is n =
    subst (λ f. rounds_that f c.args.self.now.calendar.current n + c.args.rounds ≤ max_closed) (taken_is c.args.self.now c.args.die.0)
    (c.in-Err.ensures.no_memory is n)

pub returns-in-Err-clause-err : goal.returns-in-Err-clause-err
returns-in-Err-clause-err g c = λ i. record {
  round = c.in-Err.ensures.err.current i;
  bookings = from_entries c.args.self.now.booked.entries;
  windows = windows_stay _ _ (past c.args.self.now.calendar) (past c.reserve_window.new.self) c.in-Err.ensures.err.windows i;
}
