use Rattle.std.proofs.Common.{◌≡◌, ◌∙◌, false, length, sym, ap}
use Rattle.std.proofs.lemmas.List.Folds.{list_all_at}
use Rattle.fa_shared_steps.specs.Prepared.{has_part}
use Rattle.fa_shared_request.proofs.gathering.gather.Goals as goal

pub returns-then-not-branch-clause-short : goal.returns-then-not-branch-clause-short
returns-then-not-branch-clause-short g c =
    let item = c.loop-page-item.result in
    let here : has_part c.args.range item.0.0 (length item.1.items) ≡ false =
    ap (λ bytes. has_part c.args.range item.0.0 (length bytes)) (sym c.as_slice.ensures.value)
    ∙ (sym c.in_ok-add_part.ensures.test ∙ c.if-not-branch.true) in
    λ _. list_all_at (λ e. has_part c.args.range e.0.0 (length e.1.items)) c.args.answers.now c.loop-page.page-index item c.loop-page-test.true
    (ap (λ e. has_part c.args.range e.0.0 (length e.1.items)) (sym c.loop-page-item.is) ∙ here)
