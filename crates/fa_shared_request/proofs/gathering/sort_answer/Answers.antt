use Rattle.std.proofs.Common.{◌∙◌, ap, refl}
use Rattle.fa_shared_steps.specs.Prepared.{after_batch}
use Rattle.fa_shared_request.proofs.Sorting.{short, sorted}
use Rattle.fa_shared_request.proofs.gathering.sort_answer.Goals as goal

pub returns-in-Ok-true : goal.returns-in-Ok-true
returns-in-Ok-true g c =
    sorted c.args.range c.args.page (λ e. (e.0.0, e.1.items)) c.args.answers.now _ _ _ (c.in-Ok-true.ensures.whole c.in-Ok-true.field-0-test)
    (c.after_batch.ensures ∙ ap (after_batch c.args.range c.args.page) c.as_slice.ensures.value)

pub returns-in-Ok-false : goal.returns-in-Ok-false
returns-in-Ok-false g c =
    short c.args.range c.args.page (λ e. (e.0.0, e.1.items)) c.args.answers.now _ _ _ (c.in-Ok-false.ensures.short c.in-Ok-false.field-0-test) refl
