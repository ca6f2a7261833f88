use Rattle.fa_core_batches.specs.Batches.{state_of}
use Rattle.fa_core_bookings.specs.Bookings.{calendar_of}
use Rattle.fa_core_bookings.specs.Places.{without_places}
use Rattle.fa_core_read.proofs.ending.release_batch.Goals as goal
use Rattle.fa_core_read_pages.specs.Left.{places_among}
use Rattle.std.proofs.Common.{List, ap, ℕ, ◌∙◌}

pub returns-clause-released : goal.returns-clause-released
returns-clause-released g c =
    c.release_pages.ensures
    ∙ ap (λ (ps : List ℕ). without_places (places_among (state_of c.args.batches.now c.args.batch.0) ps) (calendar_of
    c.args.bookings.now)) c.pages.ensures.pages
