use Rattle.std.proofs.Common.{refl}
use Rattle.fa_core_calls.specs.Answers.{admit_answer}
use Rattle.fa_solo.proofs.Orders.{asked_for, unasked}
use Rattle.fa_solo.proofs.Thin.{may_admit}
use Rattle.fa_solo.proofs.rebuilding.ask.Goals as goal

pub returns-clause-none : goal.returns-clause-none
returns-clause-none g c =
    unasked _ _ c.args.page.0 c.batch_of.result (admit_answer c.in-Some.answer) c.batch_of.ensures.none
    (record { step = c.in-Some.ensures.some; left = c.admit.ensures.rest; images = refl; dies = refl })

pub returns-clause-some : goal.returns-clause-some
returns-clause-some g c =
    asked_for _ _ c.args.page.0 c.batch_of.result (admit_answer c.in-Some.answer) c.batch_of.ensures.some
    (record { step = c.in-Some.ensures.some; left = c.admit.ensures.rest; images = refl; dies = refl })

pub unreachable-requires : goal.unreachable-requires
unreachable-requires g c = may_admit c.args.inner.now.locked.core c.args.page.0 c.requires.page c.in-None.ensures.none.0
