use Rattle.fa_core_bookings.specs.Found.{taken_is}
use Rattle.fa_types.specs.Open.{open_among}
use Rattle.std.proofs.Common.{Bool, ap, ℕ, ◌∙◌}
use Rattle.fa_core_bookings.proofs.bookings.BookingsRounds.open_count.Goals as goal

pub returns : goal.returns
returns g c =
    c.open_count.ensures
    ∙ ap (λ (f : ℕ → ℕ → Bool). open_among c.args.self.now.calendar.current f c.args.die.0 c.args.rounds)
    (λ i die. taken_is c.args.self.now die i)
