use Rattle.fa_closed.specs.Closed as spans
use Rattle.fa_core_bookings.proofs.Exchanged.{all_booked, without_is}
use Rattle.std.proofs.Common.{Bool, IfOk, subst, ℕ, ◌≡◌, ◌≤◌}
use Rattle.fa_core_bookings.proofs.bookings.Bookings.closed.Goals as goal

pub closed-requires : goal.closed-requires
closed-requires g c = all_booked c.args.self.now c.args.without.now c.requires

pub returns-clause-closed : goal.returns-clause-closed
returns-clause-closed g c =
    subst (λ (f : ℕ → ℕ → Bool). IfOk c.closed.result (λ closed. (die round : ℕ) → c.args.self.now.calendar.current ≤ round
    → spans.is_closed closed die round ≡ f die round)) (without_is c.args.self.now c.args.without.now) c.closed.ensures.closed
