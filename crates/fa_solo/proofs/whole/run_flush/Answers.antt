use Rattle.fa_solo.proofs.Begun.{flush_told}
use Rattle.fa_solo.proofs.whole.run_flush.Goals as goal

pub returns-in-Err-clause-request : goal.returns-in-Err-clause-request
returns-in-Err-clause-request g c = flush_told _ _ _ _ _ _ c.of_flush.ensures c.in-Err.ensures.request
