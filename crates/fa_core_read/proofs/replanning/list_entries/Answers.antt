use Rattle.fa_core_batches.specs.Batches.{batches_of, state_of}
use Rattle.fa_core_batches.specs.Pages.{opened}
use Rattle.fa_core_bookings.specs.Bookings.{calendar_of}
use Rattle.fa_core_tables.specs.Dies.{by_die}
use Rattle.fa_core_read.proofs.LeftOf.{left_same}
use Rattle.fa_core_read.proofs.Others.{AreInside, pages_inside}
use Rattle.fa_core_read_pages.specs.Left.{left_among}
use Rattle.std.proofs.Common.{ap, subst, sym, ◌∙◌, ◌≡◌}
use Rattle.fa_machine.specs.Reading.{entries_for, left_of}
use Rattle.fa_core_read.proofs.replanning.list_entries.Goals as goal
use Rattle.fa_core_state.specs.Core.{core_of}
use Rattle.std.specs.Prelude.{OnOk}

pub list_left-requires : goal.list_left-requires
list_left-requires g c =
    let bound = (g.M.Map.view c.args.state.now.page_map).geometry.pages in
    pages_inside bound c.pages-pages.result.now
    (subst (AreInside bound) (sym c.pages-pages.ensures.pages) (c.requires.fitted.listed c.args.batch.0))

pub returns : goal.returns
returns g c =
    let state = c.args.state.now in let m = g.M.Map.view state.page_map in
    let here = ap (left_among (state_of state.batches c.args.batch.0)) c.pages-pages.ensures.pages
    ∙ left_same state.batches (calendar_of state.bookings).bookings (by_die state.jobs) c.requires.fitted.tracked c.args.batch.0
    c.requires.open (opened (batches_of state.batches) c.args.batch.0).pages (opened (batches_of state.batches) c.args.batch.0).answers
    c.pages-pages.ensures.there c.pages-pages.ensures.answers in
    subst (λ pages. OnOk c.list_left.result (c.list_left.new.entries ≡ entries_for m pages)) here c.list_left.ensures
