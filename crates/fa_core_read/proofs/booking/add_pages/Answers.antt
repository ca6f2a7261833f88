use Rattle.fa_core_batches.specs.Batches.{batches_of, bytes_of, state_of}
use Rattle.fa_core_batches.specs.Pages.{opened}
use Rattle.fa_core_read.proofs.Answered.{on_err_of}
use Rattle.fa_core_read_pages.proofs.Entries.{numbers_more}
use Rattle.fa_core_read.proofs.Opening.{all_more, batch_of, batches_more, contains_inserted, next_is_new, none_yet, not_yet, open_again}
use Rattle.fa_core_read.proofs.Opening.{remove_inserted, with_page}
use Rattle.fa_core_read.proofs.booking.add_pages.Goals as goal
use Rattle.fa_core_read.specs.Opened.{opened_state}
use Rattle.fa_types.specs.declared.numbers.Page.{Page}
use Rattle.std.proofs.Common.{ap, arith, map, refl, sym, ◌∙◌}
use Rattle.std.specs.FinMap.{contains_key, insert, remove}
use Rattle.std.specs.Prelude.{if◌then◌else◌, not, replicate, slice_index_or, take, ◌==◌}

pub add-requires-clause-open : goal.add-requires-clause-open
add-requires-clause-open g c =
    ap (λ m. contains_key m c.args.batch.0) c.loop-page.invariant.0
    ∙ contains_inserted (batches_of c.args.batches.now) c.args.batch.0 _

pub add-requires-clause-other : goal.add-requires-clause-other
add-requires-clause-other g c =
    let i = c.loop-page.page-index in let pages = c.args.pages.now in
    not_yet (g.M.Map.view c.args.page_map.now) c.args.batch.0 (slice_index_or pages i (record { 0 = 0 })).0
    (map (λ (page : Page). page.0) (take i pages)) (state_of c.args.batches.now) (state_of c.loop-page.batches)
    (next_is_new pages i (record { 0 = 0 }) c.loop-page-test.true c.requires.distinct) c.loop-page.invariant.1

pub add-requires-clause-room : goal.add-requires-clause-room
add-requires-clause-room g c =
    let room = c.loop-page.invariant.2 in let low = c.loop-page-test.true in omega (arith, room, low)

pub loop-page-init : goal.loop-page-init
loop-page-init g c =
    let m = g.M.Map.view c.args.page_map.now in let batches = batches_of c.args.batches.now in let room = c.requires.room in (
      sym (open_again batches c.args.batch.0 c.requires.there) ∙ ap (insert batches c.args.batch.0) c.requires.begun,
      none_yet m c.args.batch.0 (state_of c.args.batches.now) c.requires.none,
      omega (arith, room),
      refl,
      refl,
    )

pub returns-in_err-add-clause-there : goal.returns-in_err-add-clause-there
returns-in_err-add-clause-there g c =
    ap (λ m. contains_key m c.args.batch.0) (c.in_err-add.ensures.refused ∙ c.loop-page.invariant.0)
    ∙ contains_inserted (batches_of c.args.batches.now) c.args.batch.0 _

pub returns-in_err-add-clause-same : goal.returns-in_err-add-clause-same
returns-in_err-add-clause-same g c =
    on_err_of _ (ap (λ m. remove m c.args.batch.0) (c.in_err-add.ensures.refused ∙ c.loop-page.invariant.0)
    ∙ remove_inserted (batches_of c.args.batches.now) c.args.batch.0 _) c.from_residual.result

pub loop-page-preserved : goal.loop-page-preserved
loop-page-preserved g c =
    let m = g.M.Map.view c.args.page_map.now in let i = c.loop-page.page-index in let pages = c.args.pages.now in
    let page = (slice_index_or pages i (record { 0 = 0 })).0 in
    let before = map (λ (page : Page). page.0) (take i pages) in
    let more = sym (numbers_more pages i (record { 0 = 0 }) c.loop-page-test.true) in
    let zeros = replicate (bytes_of c.args.batches.now) 0 in
    let is = ap not c.has_data.ensures in
    let room = c.in_ok-add.ensures.room in let left = c.loop-page.invariant.2 in (
      batches_more m zeros (batches_of c.args.batches.now) (batches_of c.loop-page.batches) (batches_of c.add.new.self)
          c.args.batch.0 page before
          (not c.has_data.result) c.loop-page.invariant.0 is
          (c.in_ok-add.ensures.added ∙ (λ k. insert (batches_of c.loop-page.batches) c.args.batch.0
          (with_page m (replicate (c.loop-page.invariant.4 k) 0) (opened (batches_of c.loop-page.batches) c.args.batch.0) page (not
          c.has_data.result))))
          ∙ ap (λ ps. insert (batches_of c.args.batches.now) c.args.batch.0 (batch_of m zeros ps)) more,
      (λ b p. all_more m zeros c.args.batch.0 page before (not c.has_data.result) (state_of c.args.batches.now) (state_of c.loop-page.batches)
          (state_of c.add.new.self) (next_is_new pages i (record { 0 = 0 }) c.loop-page-test.true c.requires.distinct) is c.loop-page.invariant.1
          c.in_ok-add.ensures.states b p
          ∙ ap (λ ps. if b == c.args.batch.0 then opened_state m ps p else state_of c.args.batches.now b p) more),
      omega (arith, room, left),
      c.add.ensures.number ∙ c.loop-page.invariant.3,
      c.add.ensures.bytes ∙ c.loop-page.invariant.4,
    )

pub returns-clause-there : goal.returns-clause-there
returns-clause-there g c =
    ap (λ m. contains_key m c.args.batch.0) c.loop-page.invariant.0
    ∙ contains_inserted (batches_of c.args.batches.now) c.args.batch.0 _
