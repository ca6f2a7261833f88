use Rattle.fa_solo_job.proofs.Chains.{does_more, does_none}
use Rattle.fa_solo_job.specs.Deeds.{IsForRequests}
use Rattle.fa_solo.proofs.requests.collect_home.Goals as goal

pub loop-looks-init : goal.loop-looks-init
loop-looks-init g c = does_none _ IsForRequests _

pub loop-looks-preserved : goal.loop-looks-preserved
loop-looks-preserved g c = does_more _ IsForRequests _ _ _ c.loop-looks.invariant c.collect_more.ensures

pub returns-then-not-collect_more : goal.returns-then-not-collect_more
returns-then-not-collect_more g c = does_more _ IsForRequests _ _ _ c.loop-looks.invariant c.collect_more.ensures
