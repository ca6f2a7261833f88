use Rattle.std.proofs.Common.{◌∙◌, sym}
use Rattle.fa_shared_lock.proofs.Holds.{all_same}
use Rattle.fa_workers.proofs.Rebuilds.{brought, brought_none, from_same}
use Rattle.fa_workers.proofs.rebuild_events.look.Goals as goal

pub returns-then-bring_in_spare-clause-rebuilds : goal.returns-then-bring_in_spare-clause-rebuilds
returns-then-bring_in_spare-clause-rebuilds g c =
    brought _ _ _ _ c.if-bring_in_spare.true c.bring_in_spare.ensures.brings (sym c.is_stopping.ensures ∙ c.if-is_stopping.false)
    c.comes_to-then-bring_in_spare.ensures

pub returns-in-Some-clause-rebuilds : goal.returns-in-Some-clause-rebuilds
returns-in-Some-clause-rebuilds g c =
    let same = brought_none _ _ _ c.if-bring_in_spare.false c.bring_in_spare.ensures.brings in
    from_same (all_same c.bring_in_spare.ensures.account same) c.ask.ensures.rebuilds
