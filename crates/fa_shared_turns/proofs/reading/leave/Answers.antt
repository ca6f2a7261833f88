use Rattle.std.proofs.Common.{map}
use Rattle.fa_shared_lock.proofs.Turns.{left}
use Rattle.fa_shared_turns.proofs.reading.leave.Goals as goal

pub returns-clause-turned : goal.returns-clause-turned
returns-clause-turned g c =
    λ t. left t _ _ _ _ c.args.purpose c.args.batch c.args.fault _ (λ a. map (λ e. (e.0.0, e.1.items)) a.items) c.end_batch-answers.result
    c.end_batch-answers.ensures.some c.end_batch-answers.ensures.none c.end_batch-answers.ensures.commits
    c.stopped.ensures
