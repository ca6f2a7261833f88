use Rattle.fa_core.proofs.Whole.{whole_after}
use Rattle.fa_machine.specs.Step.{EndBatch}
use Rattle.std.proofs.Common.{map, refl, rules}
use Rattle.fa_core.proofs.array.Array.end_batch.Goals as goal

pub returns-clause-whole : goal.returns-clause-whole
returns-clause-whole g c =
    let keeps = c.an_event_keeps.ensures in
    whole_after g.M.Map.view c.args.self.now _ (EndBatch c.args.batch.0 (map (λ e. (e.0.0, e.1.items)) c.end_batch-answers.result.items))
    (search rules) keeps.sound keeps.programs keeps.history keeps.geometry c.requires.whole c.end_batch-answers.ensures.fitted refl
