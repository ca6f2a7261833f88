use Rattle.fa_batch_terms.specs.declared.place.Place.{Place}
use Rattle.fa_core_batches.specs.Batches.{batches_of, state_of}
use Rattle.fa_core_batches.specs.Pages.{opened}
use Rattle.fa_core_bookings.specs.Bookings.{calendar_of}
use Rattle.fa_machine.proofs.Lists.{all_from_among}
use Rattle.fa_machine.specs.Reading.{booked, to_read}
use Rattle.fa_machine.specs.Rounds.{is_closed, is_taken, is_taken_with}
use Rattle.fa_machine.specs.State.{CalendarState, is_live}
use Rattle.fa_core_tables.specs.Dies.{by_die}
use Rattle.fa_core_read.proofs.Newly.{all_there, is_placed_in, left_read, none_in_place, none_placed, read_left}
use Rattle.fa_core_read.proofs.Others.{AreInside, each_removed, fitted_with, open_still, tracked_others}
use Rattle.fa_core_read.proofs.Plans.{each_placed, placed_inside, placed_open, placed_page}
use Rattle.fa_core_read.proofs.Released.{without_none}
use Rattle.fa_core_read.proofs.admitting.book_new.Goals as goal
use Rattle.fa_core_read_pages.specs.Left.{is_left}
use Rattle.fa_core_state.specs.Core.{core_of}
use Rattle.fa_types.specs.Open.{FewClosed, IsOpen}
use Rattle.fa_types.specs.Windows.{IsFull}
use Rattle.std.proofs.Common.{None, ap, arith, eq-eqb, false, length, refl, subst, sym, true, ℕ, ◌∙◌, ◌≡◌, ◌≤◌}
use Rattle.std.proofs.lemmas.Bool.{false≢true, or_parts}
use Rattle.std.specs.FinMap.{contains_key}
use Rattle.std.specs.List.{AllByRecursion}
use Rattle.std.specs.Prelude.{if◌then◌else◌, not}

pub book-requires-clause-booked : goal.book-requires-clause-booked
book-requires-clause-booked g c =
    let batches = c.args.state.now.batches in let pages = (opened (batches_of batches) c.args.batch.0).pages in
    sym (none_placed (g.M.Map.view c.args.state.now.page_map) pages (state_of batches c.args.batch.0) c.requires.states pages)

pub book-requires-clause-whole : goal.book-requires-clause-whole
book-requires-clause-whole g c =
    let batches = c.args.state.now.batches in let pages = (opened (batches_of batches) c.args.batch.0).pages in
    all_there (g.M.Map.view c.args.state.now.page_map) pages (state_of batches c.args.batch.0) c.requires.states

pub book-requires-clause-opens : goal.book-requires-clause-opens
book-requires-clause-opens g c =
    let m = g.M.Map.view c.args.state.now.page_map in let calendar = calendar_of c.args.state.now.bookings in
    let pages = to_read m (opened (batches_of c.args.state.now.batches) c.args.batch.0).pages in
    subst (λ (k : CalendarState). AllByRecursion (λ (x : Place). IsOpen calendar.round (is_taken k) x.die.0 x.round.0) c.args.places.now)
    (sym (without_none calendar))
    (all_from_among (λ (x : Place). IsOpen calendar.round (is_taken calendar) x.die.0 x.round.0) c.args.places.now (λ x among.
    let opens = placed_open m pages calendar.round (is_closed m calendar) c.args.places.now c.requires.plan x among in
    (opens.0, (or_parts (not (is_live m x.die.0)) (is_taken calendar x.die.0 x.round.0) opens.1).1)))

pub book-requires-clause-left : goal.book-requires-clause-left
book-requires-clause-left g c =
    let m = g.M.Map.view c.args.state.now.page_map in let calendar = calendar_of c.args.state.now.bookings in
    let batches = c.args.state.now.batches in let pages = (opened (batches_of batches) c.args.batch.0).pages in
    all_from_among (λ (x : Place). is_left (state_of batches c.args.batch.0 x.page.0) ≡ true) c.args.places.now (λ x among.
    read_left m pages (state_of batches c.args.batch.0) c.requires.states x.page.0
    (placed_page m (to_read m pages) calendar.round (is_closed m calendar) c.args.places.now c.requires.plan x among))

pub book-requires-clause-all : goal.book-requires-clause-all
book-requires-clause-all g c = λ page left.
    let m = g.M.Map.view c.args.state.now.page_map in let calendar = calendar_of c.args.state.now.bookings in
    let batches = c.args.state.now.batches in let pages = (opened (batches_of batches) c.args.batch.0).pages in
    each_placed m (to_read m pages) calendar.round (is_closed m calendar) c.args.places.now c.requires.plan page
    (left_read m pages (state_of batches c.args.batch.0) c.requires.states page left)

pub book-requires-clause-inside : goal.book-requires-clause-inside
book-requires-clause-inside g c =
    let m = g.M.Map.view c.args.state.now.page_map in let calendar = calendar_of c.args.state.now.bookings in
    let pages = to_read m (opened (batches_of c.args.state.now.batches) c.args.batch.0).pages in
    placed_inside m pages calendar.round (is_closed m calendar) c.args.places.now c.requires.plan m.geometry.dies
    (g.met.M.Map.whole c.args.state.now.page_map).live

pub returns-in-Ok-clause-ok : goal.returns-in-Ok-clause-ok
returns-in-Ok-clause-ok g c =
    let core = core_of g.M.Map.view c.args.state.now in
    c.in-Ok.ensures.ok
    ∙ ap (λ (k : CalendarState). record core { calendar = booked c.args.batch c.args.places.now k })
    (without_none (calendar_of c.args.state.now.bookings))

pub returns-in-Ok-clause-fits : goal.returns-in-Ok-clause-fits
returns-in-Ok-clause-fits g c =
    let calendar = calendar_of c.args.state.now.bookings in
    subst (λ (k : CalendarState). FewClosed calendar.round (is_taken_with k c.args.places.now)) (without_none calendar) c.in-Ok.ensures.fits

pub returns-in-Err-clause-full : goal.returns-in-Err-clause-full
returns-in-Err-clause-full g c = λ full.
    let calendar = calendar_of c.args.state.now.bookings in
    subst (λ (k : CalendarState). (die : ℕ) × IsFull calendar.round (is_taken_with k c.args.places.now die) 0) (without_none calendar)
    (c.in-Err.ensures.full full)

pub returns-in-Err-clause-fitted : goal.returns-in-Err-clause-fitted
returns-in-Err-clause-fitted g c =
    let state = c.book.new.state in let before = c.args.state.now in let after = c.end.new.self in
    let batch = c.args.batch.0 in let fitted = c.book.ensures.fitted in
    let m = g.M.Map.view before.page_map in let pages = (opened (batches_of before.batches) batch).pages in
    let here : (p : ℕ) → is_placed_in (state_of state.batches batch p) ≡ false =
    λ p. ap is_placed_in (c.in-Err.ensures.same batch p) ∙ none_in_place m pages (state_of before.batches batch) c.requires.states p in
    fitted_with g.M.Map.view state fitted after c.end.ensures.bytes
    (tracked_others state.batches after (calendar_of state.bookings).bookings (by_die state.jobs) fitted.tracked batch
    (λ b p other. c.end.ensures.states b p ∙ ap (λ t. if t then None else state_of state.batches b p) other)
    (λ p. ap is_placed_in (c.end.ensures.states batch p ∙ ap (λ t. if t then None else state_of state.batches batch p)
    (eq-eqb batch batch refl)))
    (λ d r p is. false≢true (sym (here p) ∙ ap is_placed_in (fitted.tracked.booked d r batch p is)))
    (λ die b page version slot is there.
    open_still (batches_of state.batches) batch b.0 (ap (λ k. contains_key k b.0) (sym c.end.ensures.ended) ∙ there))
    (omega (arith, c.end.ensures.number)))
    (λ b. subst (λ k. AreInside (g.M.Map.view state.page_map).geometry.pages (opened k b).pages) (sym c.end.ensures.ended)
    (each_removed (AreInside (g.M.Map.view state.page_map).geometry.pages) (batches_of state.batches) batch fitted.listed
    (λ page is. absurd (false≢true is)) b))
    (λ b. subst (λ k. length (opened k b).pages ≤ 1024) (sym c.end.ensures.ended)
    (each_removed (λ ps. length ps ≤ 1024) (batches_of state.batches) batch fitted.few (omega arith) b))
