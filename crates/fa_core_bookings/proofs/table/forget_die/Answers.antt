use Rattle.std.proofs.Common.{rules, ap, ◌∙◌}
use Rattle.fa_core_bookings.proofs.Booked.{is_elsewhere, without_die}
use Rattle.fa_core_bookings.specs.Booked.{booking_at}
use Rattle.std.proofs.lemmas.Map.Made.{filter_same_pairs}
use Rattle.fa_core_bookings.proofs.table.forget_die.Goals as goal

pub returns : goal.returns
returns g c d r =
    ap (λ es. booking_at es d r)
    (filter_same_pairs _ (is_elsewhere c.args.die) _ (λ k v b w f' t. search rules) _ _ c.retain.ensures.filtered)
    ∙ without_die c.args.die c.args.booked.now.entries d r
