use Rattle.std.proofs.Common.{arith}
use Rattle.fa_batch.proofs.Held.{same_length}
use Rattle.fa_batch.proofs.batch.Batch.len.Goals as goal

pub returns : goal.returns
returns g c =
    let size = same_length c.args.self.now c.self.inside.entries.items c.self.inside.holders.items c.self.view_is in
    omega arith
