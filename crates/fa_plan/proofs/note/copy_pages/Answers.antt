use Rattle.std.proofs.Common.{◌≡◌, suc, ◌+◌, ◌++◌, ◌∷◌, [], ap, ◌∙◌, sym, take, arith}
use Rattle.fa_plan.proofs.Copied.{copied_more}
use Rattle.fa_plan.proofs.note.copy_pages.Goals as goal

pub pages-preserved : goal.pages-preserved
pages-preserved g c =
    let next : c.pages.index + 1 ≡ suc c.pages.index = omega arith in
    c.in_ok-push.ensures.ok
    ∙ ap (λ v. v ++ record { page = c.page.result; holders = c.holders_at.result.now } ∷ []) c.pages.invariant
    ∙ sym (copied_more c.args.batch.now c.pages.index c.page.result c.holders_at.result.now (omega arith) c.page.ensures c.holders_at.ensures)
    ∙ ap (λ n. take n c.args.batch.now) (sym next)
