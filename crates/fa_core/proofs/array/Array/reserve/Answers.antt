use Rattle.fa_core.proofs.Whole.{claimed_inside, whole_after}
use Rattle.fa_core.specs.Array.{state_of}
use Rattle.fa_machine.specs.Step.{Reserve}
use Rattle.std.proofs.Common.{refl, rules}
use Rattle.fa_core.proofs.array.Array.reserve.Goals as goal

pub reserve-answer-requires-clause-page : goal.reserve-answer-requires-clause-page
reserve-answer-requires-clause-page g c =
    claimed_inside (state_of g.M.Map.view c.args.self.now) c.requires.whole.sound c.args.claim.0 c.requires.claimed

pub returns-clause-whole : goal.returns-clause-whole
returns-clause-whole g c =
    let keeps = c.an_event_keeps.ensures in
    whole_after g.M.Map.view c.args.self.now _ (Reserve c.args.claim.0 c.args.payload.now c.reserve-answer.result) (search rules) keeps.sound keeps.programs keeps.history
    keeps.geometry c.requires.whole c.reserve-answer.ensures.fitted refl
