use Rattle.std.proofs.Common.{arith}
use Rattle.fa_batch.specs.declared.batch.HeldPage.{HeldPage}
use Rattle.fa_batch.proofs.Rising.{rises_where}
use Rattle.fa_batch.proofs.batch.rises.Goals as goal

pub returns-else-rising-eq0 : goal.returns-else-rising-eq0
returns-else-rising-eq0 c =
    let d : HeldPage = record { page = record { 0 = 0 }; end = 0 } in
    rises_where c.args.entries.now c.args.rising c.args.page.0 d c.requires (omega arith) (omega arith)
