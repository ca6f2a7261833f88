use Rattle.fa_core_batches.specs.Batches.{batches_of, state_of}
use Rattle.fa_core_batches.specs.Pages.{opened}
use Rattle.fa_core_bookings.specs.Bookings.{calendar_of}
use Rattle.fa_machine.proofs.Maps.{get-insert_other}
use Rattle.fa_machine.specs.Reading.{is_fresh}
use Rattle.fa_core_tables.specs.Dies.{by_die}
use Rattle.fa_core_read.proofs.Newly.{none_in_place}
use Rattle.fa_core_read.proofs.Others.{AreInside, each_inserted, fitted_with, listed_few, listed_inside, next_fresh, none_booked}
use Rattle.fa_core_read.proofs.Others.{none_read, tracked_again, tracked_others}
use Rattle.fa_core_read.proofs.admitting.open_new.Goals as goal
use Rattle.fa_core_read.specs.Opened.{opened_state}
use Rattle.fa_core_state.specs.Core.{core_of}
use Rattle.fa_core_state.specs.Tracked.{unstarted}
use Rattle.fa_types.specs.declared.numbers.Page.{Page}
use Rattle.std.proofs.Common.{Some, ap, arith, eq-eqb, false, length, map, refl, subst, sym, ℕ, ◌∙◌, ◌≡◌, ◌≤◌}
use Rattle.std.proofs.lemmas.Bool.{false≢true}
use Rattle.std.specs.FinMap.{contains_key}
use Rattle.std.specs.Prelude.{if◌then◌else◌, is_some, ◌==◌}

pub returns-in-Ok-clause-fresh : goal.returns-in-Ok-clause-fresh
returns-in-Ok-clause-fresh g c =
    let state = c.args.state.now in
    ap (is_fresh (core_of g.M.Map.view state)) c.in-Ok.ensures.number.0
    ∙ next_fresh state.batches (calendar_of state.bookings).bookings (by_die state.jobs) c.requires.fitted.tracked
    (core_of g.M.Map.view state) refl refl refl c.open.ensures.fresh

pub returns-in-Ok-clause-states : goal.returns-in-Ok-clause-states
returns-in-Ok-clause-states g c = λ p.
    let m = g.M.Map.view c.args.state.now.page_map in let pages = map (λ (page : Page). page.0) c.args.pages.now in
    let batch = c.in-Ok.batch.0 in
    c.in-Ok.ensures.states batch p
    ∙ ap (λ b. if b then opened_state m pages p else state_of c.args.state.now.batches batch p) (eq-eqb batch batch refl)

pub returns-in-Ok-clause-fitted : goal.returns-in-Ok-clause-fitted
returns-in-Ok-clause-fitted g c =
    let state = c.args.state.now in let tracked = c.requires.fitted.tracked in
    let m = g.M.Map.view state.page_map in let pages = map (λ (page : Page). page.0) c.args.pages.now in
    let batch = c.in-Ok.batch.0 in let after = c.open.new.batches in
    let number = c.in-Ok.ensures.number in
    let others : (b p : ℕ) → (b == batch) ≡ false → state_of after b p ≡ state_of state.batches b p =
    λ b p other. c.in-Ok.ensures.states b p ∙ ap (λ t. if t then opened_state m pages p else state_of state.batches b p) other in
    let here : (p : ℕ) → state_of after batch p ≡ opened_state m pages p =
    λ p. c.in-Ok.ensures.states batch p
    ∙ ap (λ t. if t then opened_state m pages p else state_of state.batches batch p) (eq-eqb batch batch refl) in
    fitted_with g.M.Map.view state c.requires.fitted after c.open.ensures.bytes
    (tracked_others state.batches after (calendar_of state.bookings).bookings (by_die state.jobs) tracked batch others
    (none_in_place m pages (state_of after batch) here)
    (λ d r p is. none_booked state.batches (calendar_of state.bookings).bookings (by_die state.jobs) tracked d r p
    (is ∙ ap (λ n. Some (unstarted n p)) number.0))
    (λ die b page version slot is there.
    let other = ap (λ n. b.0 == n) number.0
    ∙ none_read state.batches (calendar_of state.bookings).bookings (by_die state.jobs) tracked die b page version slot is in (
      other,
      ap is_some (sym (get-insert_other (batches_of state.batches) batch _ b.0 (λ same. false≢true (sym other ∙ eq-eqb b.0 batch same))))
          ∙ ap (λ k. contains_key k b.0) (sym c.in-Ok.ensures.opened) ∙ there,
    ))
    (omega (arith, number.1)))
    (λ b. subst (λ k. AreInside m.geometry.pages (opened k b).pages) (sym c.in-Ok.ensures.opened)
    (each_inserted (AreInside m.geometry.pages) (batches_of state.batches) batch c.requires.fitted.listed _
    (listed_inside m.geometry.pages c.args.pages.now c.requires.inside) b))
    (λ b. subst (λ k. length (opened k b).pages ≤ 1024) (sym c.in-Ok.ensures.opened)
    (each_inserted (λ ps. length ps ≤ 1024) (batches_of state.batches) batch c.requires.fitted.few _
    (listed_few c.args.pages.now c.requires.few) b))

pub returns-in-Err-clause-fitted : goal.returns-in-Err-clause-fitted
returns-in-Err-clause-fitted g c =
    let state = c.args.state.now in let after = c.open.new.batches in
    let m = g.M.Map.view state.page_map in
    fitted_with g.M.Map.view state c.requires.fitted after c.open.ensures.bytes
    (tracked_again state.batches after (calendar_of state.bookings).bookings (by_die state.jobs) c.requires.fitted.tracked
    c.in-Err.ensures.refused_states c.in-Err.ensures.refused c.open.ensures.later)
    (λ b. subst (λ k. AreInside m.geometry.pages (opened k b).pages) (sym c.in-Err.ensures.refused) (c.requires.fitted.listed b))
    (λ b. subst (λ k. length (opened k b).pages ≤ 1024) (sym c.in-Err.ensures.refused) (c.requires.fitted.few b))
