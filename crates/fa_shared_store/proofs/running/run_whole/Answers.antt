use Rattle.fa_shared_request.proofs.Counts.{made_new}
use Rattle.fa_shared_store.proofs.running.run_whole.Goals as goal

pub returns : goal.returns
returns g c =
    made_new _ _ _ _ c.args.request _ _ _ _ c.from.ensures c.in-Ok.ensures.tally c.finish.ensures.goes_on c.finish.ensures.ended
    c.result_of.ensures.ended
