use Rattle.fa_core_bookings.specs.Bookings.{calendar_of}
use Rattle.fa_core_bookings.specs.Places.{without_places}
use Rattle.fa_core_read.proofs.GivenUp.{no_place}
use Rattle.fa_core_read.proofs.Released.{without_none}
use Rattle.fa_core_read.proofs.ending.release_page.Goals as goal
use Rattle.std.proofs.Common.{[], ap, sym, ◌∙◌}
use Rattle.std.specs.List.{cons_option}

pub returns-in_default : goal.returns-in_default
returns-in_default g c =
    let calendar = calendar_of c.args.bookings.now in
    sym (ap (λ o. without_places (cons_option o []) calendar) (sym c.place_in.ensures ∙ no_place c.place_in.result c.in_default.not-Some)
    ∙ without_none calendar)
