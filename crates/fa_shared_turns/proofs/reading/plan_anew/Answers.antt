use Rattle.std.proofs.Common.{refl, subst, sym}
use Rattle.fa_machine.specs.Step.{Replan, Step}
use Rattle.fa_shared_lock.specs.Moves.{Moved}
use Rattle.fa_core_calls.specs.Answers.{plan_answer}
use Rattle.fa_shared_lock.proofs.Turns.{no_rise}
use Rattle.fa_shared_turns.proofs.reading.plan_anew.Goals as goal

pub returns-in-Some-clause-turned : goal.returns-in-Some-clause-turned
returns-in-Some-clause-turned g c =
    let act = Replan c.args.batch.0 (plan_answer c.in-Some.answer) in
    λ t. Moved act (subst (λ locked. Step c.args.locked.now.core act locked.core) (sym c.planned_anew.ensures.locked) c.in-Some.ensures.some)
    (no_rise c.in-Some.ensures.commits) (refl, c.planned_anew.ensures.next) c.requires
