use Rattle.fa_core_batches.proofs.Placed.{list_changed}
use Rattle.std.proofs.Common.{rules}
use Rattle.fa_core_batches.proofs.lists.count_change.Goals as goal

pub returns-in-Some : goal.returns-in-Some
returns-in-Some g c =
    list_changed c.args.lists.now.entries _ c.args.batch.0 c.args.was c.args.is c.in-Some.list.now _ c.in-Some.ensures.value
    (search rules) ((c.get_mut.follows.holds _).3 (search rules)).0
