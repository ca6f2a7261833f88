use Rattle.fa_core_state.specs.Core.{core_of}
use Rattle.fa_core_dispatch.proofs.Dropped.{left_alone}
use Rattle.std.proofs.Common.{ap, sym, ◌∙◌}
use Rattle.std.proofs.lemmas.Option.{none-some}
use Rattle.std.specs.FinMap.{get}
use Rattle.fa_core_dispatch.proofs.reading.drop_stale_booking.Goals as goal

pub returns-in-None-clause-dropped : goal.returns-in-None-clause-dropped
returns-in-None-clause-dropped g c =
    let core = core_of g.M.Map.view c.args.state.now in
    let same = sym (left_alone core.calendar.bookings c.args.die.0 core.calendar.round (λ b is.
    absurd (none-some b (c.in-None.ensures ∙ ap (λ n. get core.calendar.bookings (c.args.die.0, n)) c.now-round.ensures ∙ is)))) in
    λ i. record core { calendar = record (core.calendar) { bookings = same i } }
