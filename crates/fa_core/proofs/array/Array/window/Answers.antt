use Rattle.fa_core.proofs.Whole.{whole_after}
use Rattle.fa_machine.specs.Step.{Window}
use Rattle.std.proofs.Common.{refl, rules}
use Rattle.fa_core.proofs.array.Array.window.Goals as goal

pub returns-clause-whole : goal.returns-clause-whole
returns-clause-whole g c =
    let keeps = c.an_event_keeps.ensures in
    whole_after g.M.Map.view c.args.self.now _ (Window c.args.die.0 c.args.rounds c.window-answer.result) (search rules) keeps.sound keeps.programs keeps.history
    keeps.geometry c.requires.whole c.window-answer.ensures.fitted refl
