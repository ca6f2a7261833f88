use Rattle.fa_core_batches.specs.Batches.{state_of}
use Rattle.fa_core_bookings.specs.Bookings.{calendar_of}
use Rattle.fa_core_bookings.specs.Places.{without_places}
use Rattle.fa_core_read_pages.proofs.Entries.{numbers_more}
use Rattle.fa_core_read.proofs.GivenUp.{given_more}
use Rattle.fa_core_read.proofs.Released.{without_none}
use Rattle.fa_core_read.proofs.ending.release_pages.Goals as goal
use Rattle.fa_core_read_pages.specs.Left.{place_in, places_among}
use Rattle.fa_types.specs.declared.numbers.Page.{Page}
use Rattle.std.proofs.Common.{[], List, ap, map, rules, sym, ◌∙◌, ◌∷◌}
use Rattle.std.proofs.lemmas.List.{take_all}
use Rattle.std.proofs.lemmas.List.Elements.{filter_map-append}
use Rattle.std.specs.Prelude.{slice_index_or, take}

pub loop-page-init : goal.loop-page-init
loop-page-init g c = sym (without_none (calendar_of c.args.bookings.now))

pub loop-page-preserved : goal.loop-page-preserved
loop-page-preserved g c =
    let state = state_of c.args.batches.now c.args.batch.0 in let calendar = calendar_of c.args.bookings.now in
    let page = slice_index_or c.args.pages.now c.loop-page.page-index (record { 0 = 0 }) in
    let before = map (λ (page : Page). page.0) (take c.loop-page.page-index c.args.pages.now) in
    c.release_page.ensures
    ∙ (λ i. without_places (places_among (λ _. c.state.ensures.state i) (page.0 ∷ [])) (c.loop-page.invariant i))
    ∙ given_more (places_among state before) (places_among state (page.0 ∷ [])) calendar
    ∙ sym (ap (λ ps. without_places ps calendar) (ap (places_among state)
    (numbers_more c.args.pages.now c.loop-page.page-index (record { 0 = 0 }) (search rules))
    ∙ filter_map-append (λ p. place_in p (state p)) before (page.0 ∷ [])))

pub returns : goal.returns
returns g c =
    let state = state_of c.args.batches.now c.args.batch.0 in
    c.loop-page.invariant
    ∙ ap (λ (ps : List Page). without_places (places_among state (map (λ (page : Page). page.0) ps)) (calendar_of c.args.bookings.now))
    (take_all c.loop-page.page-index c.args.pages.now (search rules))
