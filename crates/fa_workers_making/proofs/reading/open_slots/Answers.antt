use Rattle.fa_workers_making.proofs.Begun.{eight_opened}
use Rattle.fa_workers_making.specs.Begun.{bytes_at}
use Rattle.fa_workers_making.proofs.reading.open_slots.Goals as goal

pub returns : goal.returns
returns g c k d within =
    eight_opened (bytes_at c.args.made.now) c.open_all.new.opened c.slot_in.result c.slot_in-2.result c.slot_in-3.result c.slot_in-4.result c.slot_in-5.result c.slot_in-6.result c.slot_in-7.result c.slot_in-8.result
    c.slot_in.ensures c.slot_in-2.ensures c.slot_in-3.ensures c.slot_in-4.ensures c.slot_in-5.ensures c.slot_in-6.ensures c.slot_in-7.ensures c.slot_in-8.ensures c.open_all.ensures k d within
