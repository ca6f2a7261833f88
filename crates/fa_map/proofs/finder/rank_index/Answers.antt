use Rattle.fa_map.proofs.Found.{rank_fits}
use Rattle.fa_map.proofs.finder.rank_index.Goals as goal

pub returns-clause-fits : goal.returns-clause-fits
returns-clause-fits c = rank_fits c.args.geometry c.args.die.0 c.args.rank c.args.block c.requires.die c.requires.rank c.requires.block
