use Rattle.fa_core_bookings.proofs.Exchanged.{all_booked, all_open, bookings_stay, exchanged, exchanged_agree, full_with, taken_with}
use Rattle.fa_core_bookings.proofs.Windows.{windows_stay}
use Rattle.fa_core_bookings.specs.Found.{past}
use Rattle.fa_calendar.specs.Calendar.{is_booked}
use Rattle.fa_types.specs.Open.{FewClosed}
use Rattle.std.proofs.Common.{Bool, ap, refl, subst, sym, ℕ, ◌∙◌}
use Rattle.std.specs.Prelude.{is_some}
use Rattle.fa_core_bookings.proofs.bookings.Bookings.exchange.Goals as goal

pub exchange-requires-clause-booked : goal.exchange-requires-clause-booked
exchange-requires-clause-booked g c = all_booked c.args.self.now c.args.old.now c.requires.booked

pub exchange-requires-clause-opens : goal.exchange-requires-clause-opens
exchange-requires-clause-opens g c = all_open c.args.self.now c.args.old.now c.args.new.now c.requires.opens

pub invariant_of-self-in-Err-exchange : goal.invariant_of-self-in-Err-exchange
invariant_of-self-in-Err-exchange g c = record {
  agree = λ d r. c.in-Err-exchange.ensures.err.booked d r ∙ c.args.self.now.agree d r
      ∙ sym (ap is_some (c.reserve.ensures.entries.2 (d, r)));
}

pub returns-in-Err-exchange-clause-full : goal.returns-in-Err-exchange-clause-full
returns-in-Err-exchange-clause-full g c is = full_with c.args.self.now c.args.old.now c.args.new.now (c.in-Err-exchange.ensures.full is)

pub returns-in-Err-exchange-clause-err : goal.returns-in-Err-exchange-clause-err
returns-in-Err-exchange-clause-err g c = λ i. record {
  round = c.in-Err-exchange.ensures.err.current i;
  bookings = bookings_stay c.args.self.now.booked.entries c.reserve.new.self.entries (λ d r. c.reserve.ensures.entries.2 (d, r)) i;
  windows = windows_stay _ _ (past c.args.self.now.calendar) (past c.exchange.new.self) c.in-Err-exchange.ensures.err.windows i;
}

pub invariant_of-self-2 : goal.invariant_of-self-2
invariant_of-self-2 g c = record {
  agree = exchanged_agree c.args.self.now c.args.old.now c.args.new.now (is_booked c.exchange.new.self) c.in_default-exchange.ensures.ok
      c.args.batch c.reserve.new.self.entries c.take_out_all.new.booked.entries c.book_all.new.booked.entries
      (λ d r. c.reserve.ensures.entries.2 (d, r)) c.take_out_all.ensures.now c.book_all.ensures;
}

pub returns-clause-ok : goal.returns-clause-ok
returns-clause-ok g c = λ i. record {
  round = c.exchange.ensures.current i;
  bookings = exchanged c.args.self.now c.args.old.now c.args.new.now (is_booked c.exchange.new.self) c.in_default-exchange.ensures.ok
      c.args.batch c.reserve.new.self.entries c.take_out_all.new.booked.entries c.book_all.new.booked.entries
      (λ d r. c.reserve.ensures.entries.2 (d, r)) c.take_out_all.ensures.now c.book_all.ensures i;
  windows = windows_stay _ _ (past c.args.self.now.calendar) (past c.exchange.new.self) c.exchange.ensures.windows i;
}

pub returns-clause-fits : goal.returns-clause-fits
returns-clause-fits g c =
    subst (λ (p : ℕ × (ℕ → ℕ → Bool)). FewClosed p.0 p.1) (λ i. (
      c.exchange.ensures.current i,
      taken_with c.args.self.now c.args.old.now c.args.new.now (is_booked c.exchange.new.self) c.in_default-exchange.ensures.ok
          c.exchange.new.self (λ d r. refl) c.exchange.ensures.windows i,
    )) c.exchange.new.self.sound.few
