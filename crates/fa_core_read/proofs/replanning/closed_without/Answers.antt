use Rattle.fa_closed.specs.Closed.{is_closed}
use Rattle.fa_closed.specs.declared.closed.Closed.{Closed}
use Rattle.fa_core_bookings.specs.Bookings.{calendar_of}
use Rattle.fa_core_bookings.specs.Places.{without_places}
use Rattle.fa_machine.specs.Reading.{released}
use Rattle.fa_machine.specs.Rounds.{is_taken}
use Rattle.fa_machine.specs.State.{CalendarState}
use Rattle.fa_core_read.proofs.Answered.{ok_one}
use Rattle.fa_core_read.proofs.replanning.closed_without.Goals as goal
use Rattle.std.proofs.Common.{ap, ℕ, ◌∙◌, ◌≡◌, ◌≤◌}

pub returns-clause-closed : goal.returns-clause-closed
returns-clause-closed g c =
    let calendar = calendar_of c.args.state.now.bookings in
    let same = ap (λ ps. without_places ps calendar) c.as_slice.ensures.value ∙ c.in_ok-places.ensures.released in
    ok_one (λ (closed : Closed g.row.A.Denot). (die round : ℕ) → calendar.round ≤ round → is_closed closed die round
    ≡ is_taken (without_places c.as_slice.result.now calendar) die round)
    (λ closed. (die round : ℕ) → calendar.round ≤ round → is_closed closed die round
    ≡ is_taken (released c.args.batch.0 calendar) die round)
    (λ closed is die round up. is die round up ∙ ap (λ (k : CalendarState). is_taken k die round) same)
    c.closed.result c.closed.ensures.closed
