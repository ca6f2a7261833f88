use Rattle.fa_shared_lock.proofs.Turns.{gave_up}
use Rattle.fa_shared_turns.proofs.writing.give_up.Goals as goal

pub returns-clause-turned : goal.returns-clause-turned
returns-clause-turned g c =
    λ t. gave_up t _ _ _ _ c.args.held c.args.fault (λ a. a) c.abandon-answer.result c.abandon-answer.ensures.some
    c.abandon-answer.ensures.none
    c.abandon-answer.ensures.commits
