use Rattle.fa_core.proofs.Whole.{whole_after}
use Rattle.fa_machine.specs.Step.{Replan}
use Rattle.fa_core_calls.specs.Answers.{plan_answer}
use Rattle.std.proofs.Common.{refl, rules}
use Rattle.fa_core.proofs.array.Array.replan.Goals as goal

pub returns-clause-whole : goal.returns-clause-whole
returns-clause-whole g c =
    let keeps = c.an_event_keeps.ensures in
    whole_after g.M.Map.view c.args.self.now _ (Replan c.args.batch.0 (plan_answer c.replan-answer.result)) (search rules) keeps.sound keeps.programs keeps.history
    keeps.geometry c.requires.whole c.replan-answer.ensures.fitted refl
