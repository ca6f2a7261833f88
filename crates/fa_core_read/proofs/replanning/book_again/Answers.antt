use Rattle.fa_batch_terms.specs.declared.place.Place.{Place}
use Rattle.fa_core_batches.specs.Batches.{batches_of, state_of}
use Rattle.fa_core_batches.specs.Pages.{opened}
use Rattle.fa_core_bookings.specs.Bookings.{calendar_of}
use Rattle.fa_core_bookings.specs.Places.{without_places}
use Rattle.fa_machine.proofs.Lists.{all_from_among}
use Rattle.fa_machine.specs.Among.{Among}
use Rattle.fa_machine.specs.Reading.{left_of, released}
use Rattle.fa_machine.specs.Rounds.{is_closed, is_taken, is_taken_with}
use Rattle.fa_machine.specs.State.{CalendarState, is_live}
use Rattle.fa_core_read.proofs.LeftOf.{among_left, left_among_them}
use Rattle.fa_core_read.proofs.Plans.{each_placed, placed_inside, placed_open, placed_page}
use Rattle.fa_core_read.proofs.replanning.book_again.Goals as goal
use Rattle.fa_core_read_pages.specs.Left.{is_left}
use Rattle.fa_core_state.specs.Core.{core_of}
use Rattle.fa_types.specs.Open.{FewClosed, IsOpen}
use Rattle.fa_types.specs.Windows.{IsFull}
use Rattle.std.proofs.Common.{ap, subst, sym, true, ℕ, ◌∙◌, ◌≡◌}
use Rattle.std.proofs.lemmas.Bool.{or_parts}
use Rattle.std.specs.List.{AllByRecursion}
use Rattle.std.specs.Prelude.{OnOk, not}

pub book-requires-clause-opens : goal.book-requires-clause-opens
book-requires-clause-opens g c =
    let state = c.args.state.now in let m = g.M.Map.view state.page_map in let calendar = calendar_of state.bookings in
    let batch = c.args.batch.0 in let after = released batch calendar in
    let same = ap (λ ps. without_places ps calendar) c.as_slice.ensures.value ∙ c.in-Ok.ensures.released in
    subst (λ (k : CalendarState). AllByRecursion (λ (x : Place). IsOpen calendar.round (is_taken k) x.die.0 x.round.0) c.args.places.now)
    (sym same)
    (all_from_among (λ (x : Place). IsOpen calendar.round (is_taken after) x.die.0 x.round.0) c.args.places.now (λ x among.
    let opens = placed_open m (left_of (core_of g.M.Map.view state) batch) calendar.round (is_closed m after) c.args.places.now
    c.requires.plan x among in
    (opens.0, (or_parts (not (is_live m x.die.0)) (is_taken after x.die.0 x.round.0) opens.1).1)))

pub book-requires-clause-left : goal.book-requires-clause-left
book-requires-clause-left g c =
    let state = c.args.state.now in let m = g.M.Map.view state.page_map in let calendar = calendar_of state.bookings in
    let batch = c.args.batch.0 in let pages = (opened (batches_of state.batches) batch).pages in
    all_from_among (λ (x : Place). is_left (state_of state.batches batch x.page.0) ≡ true) c.args.places.now (λ x among.
    among_left (state_of state.batches batch) pages x.page.0 (subst (Among x.page.0) c.places_of.ensures.left
    (placed_page m (left_of (core_of g.M.Map.view state) batch) calendar.round (is_closed m (released batch calendar)) c.args.places.now
    c.requires.plan x among)))

pub book-requires-clause-all : goal.book-requires-clause-all
book-requires-clause-all g c = λ page left.
    let state = c.args.state.now in let m = g.M.Map.view state.page_map in let calendar = calendar_of state.bookings in
    let batch = c.args.batch.0 in let pages = (opened (batches_of state.batches) batch).pages in
    each_placed m (left_of (core_of g.M.Map.view state) batch) calendar.round (is_closed m (released batch calendar)) c.args.places.now
    c.requires.plan page
    (subst (Among page) (sym c.places_of.ensures.left)
    (left_among_them (state_of state.batches batch) pages c.places_of.ensures.whole page left))

pub book-requires-clause-inside : goal.book-requires-clause-inside
book-requires-clause-inside g c =
    let state = c.args.state.now in let m = g.M.Map.view state.page_map in let calendar = calendar_of state.bookings in
    let batch = c.args.batch.0 in
    placed_inside m (left_of (core_of g.M.Map.view state) batch) calendar.round (is_closed m (released batch calendar)) c.args.places.now
    c.requires.plan m.geometry.dies (g.met.M.Map.whole state.page_map).live

pub returns-in-Ok-clause-fits : goal.returns-in-Ok-clause-fits
returns-in-Ok-clause-fits g c =
    let calendar = calendar_of c.args.state.now.bookings in
    let same = ap (λ ps. without_places ps calendar) c.as_slice.ensures.value ∙ c.in-Ok.ensures.released in
    subst (λ (k : CalendarState). OnOk c.book.result (FewClosed calendar.round (is_taken_with k c.args.places.now))) same
    c.book.ensures.fits

pub returns-in-Ok-clause-full : goal.returns-in-Ok-clause-full
returns-in-Ok-clause-full g c = λ full.
    let calendar = calendar_of c.args.state.now.bookings in
    let same = ap (λ ps. without_places ps calendar) c.as_slice.ensures.value ∙ c.in-Ok.ensures.released in
    subst (λ (k : CalendarState). (die : ℕ) × IsFull calendar.round (is_taken_with k c.args.places.now die) 0) same
    (c.book.ensures.full full)
