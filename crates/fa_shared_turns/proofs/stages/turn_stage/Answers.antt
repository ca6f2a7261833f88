use Rattle.fa_shared_lock.proofs.Turns.{at_stage}
use Rattle.fa_shared_turns.proofs.stages.turn_stage.Goals as goal

pub returns-in-Asking-clause-turned : goal.returns-in-Asking-clause-turned
returns-in-Asking-clause-turned g c = at_stage c.in-Asking.is (c.ask.ensures.turned c.args.task)

pub returns-in-Reading-clause-turned : goal.returns-in-Reading-clause-turned
returns-in-Reading-clause-turned g c = at_stage c.in-Reading.is (c.read.ensures.turned c.args.task)

pub returns-in-Leaving-clause-turned : goal.returns-in-Leaving-clause-turned
returns-in-Leaving-clause-turned g c = at_stage c.in-Leaving.is (c.leave.ensures.turned c.args.task)

pub returns-in-Claiming-clause-turned : goal.returns-in-Claiming-clause-turned
returns-in-Claiming-clause-turned g c = at_stage c.in-Claiming.is c.claim_page.ensures.turned

pub returns-in-Reserving-clause-turned : goal.returns-in-Reserving-clause-turned
returns-in-Reserving-clause-turned g c = at_stage c.in-Reserving.is (c.reserve_wish.ensures.turned c.args.task)

pub returns-in-Committing-clause-turned : goal.returns-in-Committing-clause-turned
returns-in-Committing-clause-turned g c = at_stage c.in-Committing.is (c.commit_wish.ensures.turned c.args.task)

pub returns-in-Abandoning-clause-turned : goal.returns-in-Abandoning-clause-turned
returns-in-Abandoning-clause-turned g c = at_stage c.in-Abandoning.is (c.abandon_wish.ensures.turned c.args.task)

pub returns-in-Releasing-clause-turned : goal.returns-in-Releasing-clause-turned
returns-in-Releasing-clause-turned g c = at_stage c.in-Releasing.is c.release_page.ensures.turned

pub returns-in-BeginningFlush-clause-turned : goal.returns-in-BeginningFlush-clause-turned
returns-in-BeginningFlush-clause-turned g c = at_stage c.in-BeginningFlush.is (c.begin_flush.ensures.turned c.args.task)

pub returns-in-Flushing-clause-turned : goal.returns-in-Flushing-clause-turned
returns-in-Flushing-clause-turned g c = at_stage c.in-Flushing.is (c.flush.ensures.turned c.args.task)
