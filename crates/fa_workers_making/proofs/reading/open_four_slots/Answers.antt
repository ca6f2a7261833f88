use Rattle.std.proofs.Common.{arith}
use Rattle.fa_tag.specs.declared.tag.Opened.TheVariants.{Erased}
use Rattle.fa_workers_making.proofs.Begun.{first_again, four_opened, same_past}
use Rattle.fa_workers_making.specs.Begun.{bytes_at}
use Rattle.fa_workers_making.proofs.reading.open_four_slots.Goals as goal

pub returns : goal.returns
returns g c k d within =
    let each = four_opened (bytes_at c.args.made.now) c.open_all.new.opened c.slot_in.result c.slot_in-2.result c.slot_in-3.result c.slot_in-4.result
    c.slot_in.ensures c.slot_in-2.ensures c.slot_in-3.ensures c.slot_in-4.ensures c.open_all.ensures in
    first_again (bytes_at c.args.made.now) _ _ _ _
    (each 0 Erased (omega arith)) (each 1 Erased (omega arith)) (each 2 Erased (omega arith)) (each 3 Erased (omega arith))
    (λ i past. same_past c.args.made.now i (omega (arith, past, c.requires))) k d within
