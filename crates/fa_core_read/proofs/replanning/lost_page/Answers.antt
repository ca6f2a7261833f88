use Rattle.fa_core_batches.specs.Batches.{batches_of, state_of}
use Rattle.fa_core_batches.specs.Pages.{opened}
use Rattle.fa_core_bookings.specs.Bookings.{calendar_of}
use Rattle.fa_core_tables.specs.Dies.{by_die}
use Rattle.fa_core_read.proofs.LeftOf.{left_same}
use Rattle.fa_machine.specs.Copies.{is_lost}
use Rattle.fa_core_read.proofs.Others.{AreInside, pages_inside}
use Rattle.fa_core_read_pages.specs.Left.{left_among}
use Rattle.std.proofs.Common.{ap, subst, sym, ◌∙◌}
use Rattle.std.specs.Prelude.{find}
use Rattle.fa_core_read.proofs.replanning.lost_page.Goals as goal

pub lost_among-requires : goal.lost_among-requires
lost_among-requires g c =
    let bound = (g.M.Map.view c.args.state.now.page_map).geometry.pages in
    pages_inside bound c.pages.result.now (subst (AreInside bound) (sym c.pages.ensures.pages) (c.requires.fitted.listed c.args.batch.0))

pub returns : goal.returns
returns g c =
    let state = c.args.state.now in
    c.lost_among.ensures
    ∙ ap (λ ps. find (is_lost (g.M.Map.view state.page_map)) (left_among (state_of state.batches c.args.batch.0) ps)) c.pages.ensures.pages
    ∙ ap (find (is_lost (g.M.Map.view state.page_map)))
    (left_same state.batches (calendar_of state.bookings).bookings (by_die state.jobs) c.requires.fitted.tracked c.args.batch.0
    c.requires.open (opened (batches_of state.batches) c.args.batch.0).pages (opened (batches_of state.batches) c.args.batch.0).answers
    c.pages.ensures.there c.pages.ensures.answers)
