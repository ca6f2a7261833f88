use Rattle.fa_core.proofs.Whole.{whole_with}
use Rattle.fa_core.proofs.array.Array.give_back.Goals as goal

pub returns-clause-whole : goal.returns-clause-whole
returns-clause-whole g c =
    let back = c.give_back.ensures in
    whole_with g.M.Map.view c.args.self.now _ back.batches back.states back.number back.bytes c.requires.whole
