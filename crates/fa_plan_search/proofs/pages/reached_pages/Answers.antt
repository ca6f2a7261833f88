use Rattle.std.proofs.Common.{◌≡◌, ◌+◌, length, get_or, refl, arith, ap, ◌∙◌, sym, subst}
use Rattle.fa_batch.proofs.Batches.{page_at}
use Rattle.fa_plan_search.specs.Reading.{no_die, no_entry}
use Rattle.fa_plan_search.specs.Pages.{AreReached, AreReachedAmong}
use Rattle.fa_plan_search.proofs.ReachedPages.{reached_with, reached_without, reached_all}
use Rattle.fa_plan_search.proofs.pages.reached_pages.Goals as goal
use Rattle.fa_plan_search.proofs.pages.reached_pages.Goals.{then-walk-given+in_ok-push, else-walk-given}

pub loop-index-preserved : goal.loop-index-preserved
loop-index-preserved g c =
    let i = c.loop-index.index in
    elim c.if-walk-given.branch [
      | then-walk-given+in_ok-push w ↦
          subst (λ v. AreReachedAmong c.args.batch.now c.args.given.now c.args.walk.now (i + 1) v) (sym (w.pages-is ∙ w.in_ok-push.ensures.ok))
          (reached_with c.args.batch.now c.args.given.now c.args.walk.now i c.loop-index.pages w.page.result
          (page_at c.args.batch.now i w.page.result (omega arith) w.page.ensures no_entry) (omega arith) no_die c.loop-index-test.true w.if-walk-given.true c.loop-index.invariant)
      | else-walk-given w ↦
          subst (λ v. AreReachedAmong c.args.batch.now c.args.given.now c.args.walk.now (i + 1) v) (sym w.pages-is)
          (reached_without c.args.batch.now c.args.given.now c.args.walk.now i c.loop-index.pages (get_or c.args.batch.now i no_entry).page
          refl (omega arith) no_die c.loop-index-test.true w.if-walk-given.false c.loop-index.invariant)
    ]

pub returns : goal.returns
returns g c =
    let end : c.loop-index.index ≡ length c.args.given.now = omega arith in
    subst (λ v. AreReached c.args.batch.now c.args.given.now c.args.walk.now v) (sym c.in_ok-push-2.ensures.ok)
    (reached_all c.args.batch.now c.args.given.now c.args.walk.now c.loop-index.index c.loop-index.pages c.page-2.result
    (ap (λ n. (get_or c.args.batch.now n no_entry).page) end ∙ page_at c.args.batch.now (length c.args.given.now) c.page-2.result (omega arith) c.page-2.ensures no_entry) (omega arith) end c.loop-index.invariant)
