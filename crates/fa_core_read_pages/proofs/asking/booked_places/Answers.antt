use Rattle.fa_core_batches.specs.Batches.{state_of}
use Rattle.fa_core_read_pages.proofs.Entries.{numbers_more}
use Rattle.fa_core_read_pages.proofs.asking.booked_places.Goals as goal
use Rattle.fa_core_read_pages.specs.Left.{place_in, places_among}
use Rattle.fa_types.specs.declared.numbers.Page.{Page}
use Rattle.std.proofs.Common.{[], ap, map, rules, sym, ◌∙◌, ◌∷◌}
use Rattle.std.proofs.lemmas.List.Elements.{filter_map-append}
use Rattle.std.specs.Prelude.{slice_index_or, take, ◌++◌}

pub loop-page-preserved : goal.loop-page-preserved
loop-page-preserved g c =
    let state = state_of c.args.batches.now c.args.batch.0 in
    let page = slice_index_or c.args.pages.now c.loop-page.page-index (record { 0 = 0 }) in
    let before = map (λ (page : Page). page.0) (take c.loop-page.page-index c.args.pages.now) in
    c.in_ok-add_booked.ensures
    ∙ (λ i. c.loop-page.invariant i ++ places_among (λ _. c.state.ensures.state i) (page.0 ∷ []))
    ∙ sym (filter_map-append (λ p. place_in p (state p)) before (page.0 ∷ []))
    ∙ sym (ap (places_among state) (numbers_more c.args.pages.now c.loop-page.page-index (record { 0 = 0 }) (search rules)))
