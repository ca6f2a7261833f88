use Rattle.fa_core_batches.specs.Batches.{batches_of, state_of}
use Rattle.fa_core_batches.specs.Pages.{opened}
use Rattle.fa_core_bookings.specs.Bookings.{calendar_of}
use Rattle.fa_core_tables.specs.Dies.{by_die}
use Rattle.fa_core_read.proofs.LeftOf.{left_same}
use Rattle.fa_batch_terms.specs.declared.place.Place.{Place}
use Rattle.fa_core_bookings.specs.Places.{without_places}
use Rattle.fa_machine.specs.Reading.{released}
use Rattle.fa_core_read.proofs.Answered.{ok_one}
use Rattle.fa_core_read.proofs.Exchanged.{places_booked}
use Rattle.fa_core_read.proofs.Released.{released_is}
use Rattle.fa_core_read.proofs.replanning.places_of.Goals as goal
use Rattle.fa_core_read_pages.specs.Left.{places_among}
use Rattle.fa_types.specs.declared.numbers.Page.{Page}
use Rattle.std.proofs.Common.{ap, map, subst, sym, true, ◌∙◌, ◌≡◌}
use Rattle.std.specs.FinMap.{contains_key}
use Rattle.std.specs.List.{AllByRecursion}
use Rattle.std.specs.declared.vec.Vec.{Vec}

pub returns-clause-places : goal.returns-clause-places
returns-clause-places g c =
    let state = state_of c.args.state.now.batches c.args.batch.0 in
    let listed = (opened (batches_of c.args.state.now.batches) c.args.batch.0).pages in
    ok_one (λ (places : Vec Place g.row.A.Denot). places.items
    ≡ places_among state (map (λ (page : Page). page.0) c.pages-pages.result.now))
    (λ places. places.items ≡ places_among state listed)
    (λ places is. is ∙ ap (places_among state) c.pages-pages.ensures.pages) c.booked_places.result c.booked_places.ensures

pub returns-clause-booked : goal.returns-clause-booked
returns-clause-booked g c =
    let state = state_of c.args.state.now.batches c.args.batch.0 in let calendar = calendar_of c.args.state.now.bookings in
    let listed = (opened (batches_of c.args.state.now.batches) c.args.batch.0).pages in
    ok_one (λ (places : Vec Place g.row.A.Denot). places.items
    ≡ places_among state (map (λ (page : Page). page.0) c.pages-pages.result.now))
    (λ places. AllByRecursion (λ (x : Place). contains_key calendar.bookings (x.die.0, x.round.0) ≡ true) places.items)
    (λ places is. subst (AllByRecursion (λ (x : Place). contains_key calendar.bookings (x.die.0, x.round.0) ≡ true))
    (sym (is ∙ ap (places_among state) c.pages-pages.ensures.pages))
    (places_booked calendar.bookings c.args.batch.0 state listed (c.requires.fitted.tracked.known c.args.batch.0)))
    c.booked_places.result c.booked_places.ensures

pub returns-clause-released : goal.returns-clause-released
returns-clause-released g c =
    let state = c.args.state.now in let calendar = calendar_of state.bookings in
    let listed = (opened (batches_of state.batches) c.args.batch.0).pages in
    ok_one (λ (places : Vec Place g.row.A.Denot). places.items
    ≡ places_among (state_of state.batches c.args.batch.0) (map (λ (page : Page). page.0) c.pages-pages.result.now))
    (λ places. without_places places.items calendar ≡ released c.args.batch.0 calendar)
    (λ places is. ap (λ ps. without_places ps calendar)
    (is ∙ ap (places_among (state_of state.batches c.args.batch.0)) c.pages-pages.ensures.pages)
    ∙ released_is state.batches calendar (by_die state.jobs) c.requires.fitted.tracked c.args.batch.0 listed c.pages-pages.ensures.there)
    c.booked_places.result c.booked_places.ensures

pub returns-clause-left : goal.returns-clause-left
returns-clause-left g c =
    let state = c.args.state.now in
    sym (left_same state.batches (calendar_of state.bookings).bookings (by_die state.jobs) c.requires.fitted.tracked c.args.batch.0
    c.requires.open (opened (batches_of state.batches) c.args.batch.0).pages (opened (batches_of state.batches) c.args.batch.0).answers
    c.pages-pages.ensures.there c.pages-pages.ensures.answers)
