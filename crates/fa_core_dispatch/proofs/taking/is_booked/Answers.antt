use Rattle.fa_core_dispatch.proofs.Dropped.{left_alone}
use Rattle.fa_core_state.specs.Core.{core_of}
use Rattle.fa_machine.specs.declared.places.Booking.{Booking}
use Rattle.std.proofs.Common.{ap, sym, ◌∙◌}
use Rattle.std.proofs.lemmas.Bool.{not-false}
use Rattle.std.proofs.lemmas.Option.{none-some, same_Some}
use Rattle.std.specs.FinMap.{get}
use Rattle.fa_core_dispatch.proofs.taking.is_booked.Goals as goal

pub returns-in-Some : goal.returns-in-Some
returns-in-Some g c started =
    let core = core_of g.M.Map.view c.args.state.now in
    let same = left_alone core.calendar.bookings c.args.die.0 core.calendar.round (λ b is.
    let one = same_Some c.in-Some.booking b (c.in-Some.ensures ∙ ap (λ n. get core.calendar.bookings (c.args.die.0, n)) c.now.ensures ∙ is) in
    sym (ap (λ (x : Booking). x.started) one) ∙ not-false c.in-Some.booking.started started) in
    λ i. record core { calendar = record (core.calendar) { bookings = same i } }

pub returns-in-None : goal.returns-in-None
returns-in-None g c none =
    let core = core_of g.M.Map.view c.args.state.now in
    let same = left_alone core.calendar.bookings c.args.die.0 core.calendar.round (λ b is.
    absurd (none-some b (c.in-None.ensures ∙ ap (λ n. get core.calendar.bookings (c.args.die.0, n)) c.now.ensures ∙ is))) in
    λ i. record core { calendar = record (core.calendar) { bookings = same i } }
