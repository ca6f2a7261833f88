use Rattle.fa_mount.proofs.Bits.{without_die}
use Rattle.fa_mount.proofs.masks.without.Goals as goal

pub returns-clause-others : goal.returns-clause-others
returns-clause-others c = λ other. without_die c.args.mask c.args.die c.ranges.mask.fits c.requires other
