use Rattle.fa_core.proofs.Allowed.{may_admit}
use Rattle.fa_core.proofs.Whole.{whole_after}
use Rattle.fa_core.specs.Array.{state_of}
use Rattle.fa_machine.specs.Step.{Admit}
use Rattle.fa_core_calls.specs.Answers.{admit_answer}
use Rattle.fa_types.specs.declared.numbers.Page.{Page}
use Rattle.std.proofs.Common.{map, refl}
use Rattle.fa_core.proofs.array.Array.admit.Goals as goal

pub returns-clause-step : goal.returns-clause-step
returns-clause-step g c = record {
  allows = may_admit (state_of g.M.Map.view c.args.self.now) c.args.pages.now c.requires.inside c.requires.distinct c.requires.few;
  does = c.admit-answer.ensures.admits;
}

pub returns-clause-whole : goal.returns-clause-whole
returns-clause-whole g c =
    let keeps = c.an_event_keeps.ensures in
    whole_after g.M.Map.view c.args.self.now _ (Admit (map (λ (page : Page). page.0) c.args.pages.now) (admit_answer c.admit-answer.result))
    (record {
      allows = may_admit (state_of g.M.Map.view c.args.self.now) c.args.pages.now c.requires.inside c.requires.distinct c.requires.few;
      does = c.admit-answer.ensures.admits;
    }) keeps.sound keeps.programs keeps.history keeps.geometry c.requires.whole c.admit-answer.ensures.fitted refl
