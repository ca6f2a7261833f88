use Rattle.fa_batch.proofs.Rising.{first_is_new}
use Rattle.fa_batch.proofs.batch.Batch.is_named_before.Goals as goal

pub returns-then-index-self : goal.returns-then-index-self
returns-then-index-self g c =
    first_is_new c.args.self.now c.self.inside.entries.items c.self.inside.holders.items c.self.inside.rising c.args.index c.self.view_is c.self.invariant.rise
    c.if-index-self.true c.requires
