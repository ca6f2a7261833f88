use Rattle.fa_solo.proofs.Orders.{out_of_order}
use Rattle.fa_solo.proofs.rebuilding.tidy.Goals as goal

pub returns-then-put_in_order : goal.returns-then-put_in_order
returns-then-put_in_order g c = c.put_in_order.ensures.yes c.if-put_in_order.true

pub returns : goal.returns
returns g c = out_of_order _ _ _ _ (c.put_in_order.ensures.no c.if-put_in_order.false) c.work_off.ensures
