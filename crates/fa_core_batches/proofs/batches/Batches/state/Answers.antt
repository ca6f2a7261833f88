use Rattle.fa_core_batches.proofs.Opened.{answered_at, in_open}
use Rattle.fa_core_batches.proofs.batches.Batches.state.Goals as goal

pub returns-in-Some-clause-answer : goal.returns-in-Some-clause-answer
returns-in-Some-clause-answer g c = answered_at _ _ _ _ c.args.self.now.whole c.args.batch.0 c.args.page.0

pub returns-in-None-clause-answer : goal.returns-in-None-clause-answer
returns-in-None-clause-answer g c = answered_at _ _ _ _ c.args.self.now.whole c.args.batch.0 c.args.page.0

pub returns-in-Some-clause-open : goal.returns-in-Some-clause-open
returns-in-Some-clause-open g c there = in_open _ _ _ _ c.args.self.now.whole c.args.batch.0 c.args.page.0 there
