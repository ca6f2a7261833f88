use Rattle.fa_mount.proofs.Bits.{with_die}
use Rattle.fa_mount.proofs.masks.with.Goals as goal

pub returns : goal.returns
returns c = λ other. with_die c.args.mask c.args.die c.requires other
