use Rattle.fa_solo_job.proofs.Chains.{does_none}
use Rattle.fa_solo.proofs.Orders.{asked_last}
use Rattle.fa_solo_job.specs.Deeds.{IsForOrder}
use Rattle.fa_solo.proofs.rebuilding.reserve_last.Goals as goal

pub returns-in_default-clause-none : goal.returns-in_default-clause-none
returns-in_default-clause-none g c = does_none _ IsForOrder _

pub returns-in_default-new-clause-none : goal.returns-in_default-new-clause-none
returns-in_default-new-clause-none g c = does_none _ IsForOrder _

pub returns-clause-some : goal.returns-clause-some
returns-clause-some g c =
    asked_last (λ e. (e.0.0, e.1.items)) _ _ c.args.thin.page.0 c.args.thin.seq.0 c.args.answers.items _ (c.in-Some.field-0-0, c.in-Some.bytes) _
    c.reserve.result c.in-Some.ensures.items c.in-Ok.ensures c.reserve.ensures.some
