use Rattle.std.proofs.Common.{refl}
use Rattle.fa_machine.specs.Step.{ReserveCopy}
use Rattle.fa_solo.proofs.Orders.{one_if_some, same_if_none}
use Rattle.fa_solo.proofs.rebuilding.reserve.Goals as goal

pub returns-clause-none : goal.returns-clause-none
returns-clause-none g c = same_if_none _ _ _ _ c.reserve_copy.result c.reserve_copy.ensures.none c.reserve_copy.ensures.rest refl refl

pub returns-clause-some : goal.returns-clause-some
returns-clause-some g c =
    one_if_some _ _ c.reserve_copy.result (λ answer. ReserveCopy c.args.thin.page.0 c.args.thin.seq.0 c.args.payload.now answer)
    c.reserve_copy.ensures.some c.reserve_copy.ensures.rest refl refl
