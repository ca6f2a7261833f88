use Rattle.fa_batch_terms.specs.Plan.{IsPlan}
use Rattle.fa_batch_terms.specs.declared.place.Place.{Place}
use Rattle.fa_core_batches.specs.Batches.{batches_of}
use Rattle.fa_core_batches.specs.Pages.{opened}
use Rattle.fa_core_bookings.specs.Bookings.{calendar_of}
use Rattle.fa_machine.specs.Reading.{booked, entries_for, to_read}
use Rattle.fa_machine.specs.Rounds.{is_closed, is_taken_with}
use Rattle.fa_machine.specs.State.{Core, OpenBatch}
use Rattle.fa_core_read.proofs.Opening.{contains_inserted, opened_inserted}
use Rattle.fa_core_read.proofs.Others.{gone_again}
use Rattle.fa_core_read.proofs.admitting.admit_planned.Goals as goal
use Rattle.fa_core_calls.specs.Answers.{planned_of}
use Rattle.fa_core_read.specs.Opened.{new_batch, opened_state}
use Rattle.fa_core_state.specs.Core.{core_of}
use Rattle.fa_types.specs.Open.{FewClosed}
use Rattle.fa_types.specs.Windows.{IsFull}
use Rattle.fa_types.specs.declared.numbers.Page.{Page}
use Rattle.std.proofs.Common.{Err, List, ap, map, subst, sym, ℕ, ◌∙◌}
use Rattle.std.specs.FinMap.{FinMap, contains_key, remove}
use Rattle.std.specs.Ordering.{nat_cmp}

pub book_new-requires-clause-open : goal.book_new-requires-clause-open
book_new-requires-clause-open g c =
    ap (λ (k : Core). contains_key k.batches c.in-Ok.batch.0) c.in-Ok.ensures.opened
    ∙ contains_inserted (batches_of c.args.state.now.batches) c.in-Ok.batch.0 _

pub book_new-requires-clause-states : goal.book_new-requires-clause-states
book_new-requires-clause-states g c = λ p.
    let m = g.M.Map.view c.args.state.now.page_map in let pages = map (λ (page : Page). page.0) c.args.pages.now in
    let batch = c.in-Ok.batch.0 in
    c.in-Ok.ensures.states p
    ∙ sym (ap (λ (b : OpenBatch). opened_state m b.pages p)
    (opened_inserted (batches_of c.args.state.now.batches) batch (new_batch m pages)))
    ∙ sym (ap (λ (k : Core). opened_state k.page_map (opened k.batches batch).pages p) c.in-Ok.ensures.opened)

pub book_new-requires-clause-plan : goal.book_new-requires-clause-plan
book_new-requires-clause-plan g c =
    let m = g.M.Map.view c.args.state.now.page_map in let pages = map (λ (page : Page). page.0) c.args.pages.now in
    let batch = c.in-Ok.batch.0 in let calendar = calendar_of c.args.state.now.bookings in
    let places = c.args.planned.plan.places in
    subst (λ (list : List Place). IsPlan (entries_for (g.M.Map.view c.open_new.new.state.page_map) (to_read (g.M.Map.view
    c.open_new.new.state.page_map) (opened (batches_of c.open_new.new.state.batches) batch).pages)) (calendar_of
    c.open_new.new.state.bookings).round (is_closed (g.M.Map.view c.open_new.new.state.page_map) (calendar_of
    c.open_new.new.state.bookings)) list) (sym c.as_slice.ensures)
    (subst (λ (k : Core). IsPlan (entries_for k.page_map (to_read k.page_map (opened k.batches batch).pages)) k.calendar.round
    (is_closed k.page_map k.calendar) places) (sym c.in-Ok.ensures.opened)
    (subst (λ (b : OpenBatch). IsPlan (entries_for m (to_read m b.pages)) calendar.round (is_closed m calendar) places)
    (sym (opened_inserted (batches_of c.args.state.now.batches) batch (new_batch m pages))) c.requires.planned.certificate.plan))

pub returns-in-Ok-book_new-clause-admits : goal.returns-in-Ok-book_new-clause-admits
returns-in-Ok-book_new-clause-admits g c =
    let batch = c.in-Ok.batch in let places = c.args.planned.plan.places in
    let few = subst (λ (list : List Place). FewClosed (calendar_of c.open_new.new.state.bookings).round
    (is_taken_with (calendar_of c.open_new.new.state.bookings) list)) c.as_slice.ensures c.in-Ok-book_new.ensures.fits in (
      (
        c.requires.held,
        c.requires.early,
        c.requires.planned,
        subst (λ (k : Core). FewClosed k.calendar.round (is_taken_with k.calendar places)) c.in-Ok.ensures.opened few,
      ),
      c.in-Ok.ensures.fresh,
      c.in-Ok-book_new.ensures.ok
          ∙ (λ i. record (core_of g.M.Map.view c.open_new.new.state) {
            calendar = booked batch (c.as_slice.ensures i) (calendar_of c.open_new.new.state.bookings);
          })
          ∙ ap (λ (k : Core). record k { calendar = booked batch places k.calendar }) c.in-Ok.ensures.opened,
    )

pub returns-in-Err-Full-clause-admits : goal.returns-in-Err-Full-clause-admits
returns-in-Err-Full-clause-admits g c =
    let core = core_of g.M.Map.view c.args.state.now in let batch = c.in-Ok.batch.0 in
    let new = new_batch (g.M.Map.view c.args.state.now.page_map) (map (λ (page : Page). page.0) c.args.pages.now) in
    let full = subst (λ (list : List Place). (die : ℕ) × IsFull (calendar_of c.open_new.new.state.bookings).round
    (is_taken_with (calendar_of c.open_new.new.state.bookings) list die) 0) c.as_slice.ensures
    (c.in-Err-Full.ensures.full (ap Err c.in-Err-Full.field-0-is)) in (
      (
        c.requires.held,
        c.requires.early,
        (
          planned_of c.args.planned,
          c.requires.planned,
          subst (λ (k : Core). (die : ℕ) × IsFull k.calendar.round (is_taken_with k.calendar c.args.planned.plan.places die) 0)
              c.in-Ok.ensures.opened full,
        ),
      ),
      c.in-Err-Full.ensures.err
          ∙ ap (λ (k : Core). record k { batches = remove k.batches batch }) c.in-Ok.ensures.opened
          ∙ ap (λ (m : FinMap nat_cmp OpenBatch). record core { batches = m }) (gone_again core batch new c.in-Ok.ensures.fresh),
    )

pub returns-in-Ok-clause-admits : goal.returns-in-Ok-clause-admits
returns-in-Ok-clause-admits g c =
    let core = core_of g.M.Map.view c.args.state.now in let batch = c.in-Ok.batch.0 in
    let new = new_batch (g.M.Map.view c.args.state.now.page_map) (map (λ (page : Page). page.0) c.args.pages.now) in (
      (c.requires.held, c.requires.early),
      c.in-Err-NoMemory.ensures.err
          ∙ ap (λ (k : Core). record k { batches = remove k.batches batch }) c.in-Ok.ensures.opened
          ∙ ap (λ (m : FinMap nat_cmp OpenBatch). record core { batches = m }) (gone_again core batch new c.in-Ok.ensures.fresh),
    )
