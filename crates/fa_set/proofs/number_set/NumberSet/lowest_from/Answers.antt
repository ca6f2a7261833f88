use Rattle.fa_set.proofs.Membership.{lowest_member}
use Rattle.fa_set.proofs.number_set.NumberSet.lowest_from.Goals as goal

pub returns : goal.returns
returns g c =
    let s = c.args.self.now in
    lowest_member s.bound s.low.items s.sound.inside c.args.from c.lowest_low.result c.lowest_low.ensures
