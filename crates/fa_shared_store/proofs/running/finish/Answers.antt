use Rattle.fa_shared_request.proofs.Counts.{goes_further, prepared_on}
use Rattle.fa_shared_store.proofs.running.finish.Goals as goal

pub loop-preserved : goal.loop-preserved
loop-preserved g c =
    goes_further _ _ _ _ _ _ c.loop.invariant
    (goes_further _ _ _ _ _ _ (prepared_on _ _ _ c.args.bytes.now c.prepare.ensures.prepared c.prepare.ensures.task) c.go_on.ensures)
