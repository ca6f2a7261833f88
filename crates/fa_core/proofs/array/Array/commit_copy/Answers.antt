use Rattle.fa_core.proofs.Whole.{whole_after}
use Rattle.fa_machine.specs.Step.{CommitCopy}
use Rattle.std.proofs.Common.{refl, rules}
use Rattle.fa_core.proofs.array.Array.commit_copy.Goals as goal

pub returns-clause-whole : goal.returns-clause-whole
returns-clause-whole g c =
    let keeps = c.an_event_keeps.ensures in
    whole_after g.M.Map.view c.args.self.now _ (CommitCopy c.commit_copy-answer.result) (search rules) keeps.sound keeps.programs keeps.history
    keeps.geometry c.requires.whole (c.commit_copy-answer.ensures.fitted c.requires.whole.fitted) refl
