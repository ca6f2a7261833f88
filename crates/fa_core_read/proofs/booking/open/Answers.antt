use Rattle.fa_core_batches.specs.Batches.{batches_of}
use Rattle.fa_core_batches.specs.Pages.{opened}
use Rattle.fa_core_read.proofs.Opening.{batch_of, contains_inserted, insert_twice, opened_inserted, remove_inserted, remove_none}
use Rattle.fa_core_read.proofs.booking.open.Goals as goal
use Rattle.fa_types.specs.declared.numbers.Page.{Page}
use Rattle.std.proofs.Common.{None, Option, Some, ap, false, map, refl, sym, ◌∙◌, ◌≡◌}
use Rattle.std.proofs.lemmas.Bool.{false≢true}
use Rattle.std.specs.FinMap.{contains_key, get, insert, remove}
use Rattle.std.specs.Prelude.{is_some, replicate}

no_value : {X : Type 0} (o : Option X) → is_some o ≡ false → o ≡ None
no_value None is = refl
no_value (Some x) is = absurd (false≢true (sym is))

pub add_pages-requires-clause-begun : goal.add_pages-requires-clause-begun
add_pages-requires-clause-begun g c =
    ap (λ m. opened m c.in_ok-batch.batch.0) c.in_ok-batch.ensures.begun
    ∙ opened_inserted (batches_of c.args.batches.now) c.in_ok-batch.batch.0 _

pub add_pages-requires-clause-there : goal.add_pages-requires-clause-there
add_pages-requires-clause-there g c =
    ap (λ m. contains_key m c.in_ok-batch.batch.0) c.in_ok-batch.ensures.begun
    ∙ contains_inserted (batches_of c.args.batches.now) c.in_ok-batch.batch.0 _

pub returns-in-Ok-clause-opened : goal.returns-in-Ok-clause-opened
returns-in-Ok-clause-opened g c =
    let m = g.M.Map.view c.args.page_map.now in
    let pages = map (λ (page : Page). page.0) c.args.pages.now in
    c.in-Ok.ensures.added
    ∙ (λ i. insert (c.in_ok-batch.ensures.begun i) c.in_ok-batch.batch.0 (batch_of m (replicate (c.begin.ensures.bytes i) 0) pages))
    ∙ insert_twice (batches_of c.args.batches.now) c.in_ok-batch.batch.0 _ _

pub returns-in-Err-clause-refused : goal.returns-in-Err-clause-refused
returns-in-Err-clause-refused g c =
    let batches = batches_of c.args.batches.now in let batch = c.in_ok-batch.batch.0 in
    c.end.ensures.ended ∙ c.in-Err.ensures.same ∙ ap (λ m. remove m batch) c.in_ok-batch.ensures.begun
    ∙ remove_inserted batches batch _
    ∙ remove_none batches batch
    (no_value (get batches batch) (ap (contains_key batches) c.in_ok-batch.ensures.number.0 ∙ c.begin.ensures.fresh))
