use Rattle.fa_core.proofs.Whole.{whole_after}
use Rattle.fa_machine.specs.Step.{ReserveCopy}
use Rattle.std.proofs.Common.{refl, rules}
use Rattle.fa_core.proofs.array.Array.reserve_copy.Goals as goal

pub returns-clause-whole : goal.returns-clause-whole
returns-clause-whole g c =
    let keeps = c.an_event_keeps.ensures in
    whole_after g.M.Map.view c.args.self.now _ (ReserveCopy c.args.page.0 c.args.seq.0 c.args.payload.now c.reserve_copy-answer.result) (search rules) keeps.sound keeps.programs keeps.history
    keeps.geometry c.requires.whole c.reserve_copy-answer.ensures.fitted refl
