use Rattle.std.proofs.Common.{arith, refl}
use Rattle.fa_lanes.specs.Lanes.{message}
use Rattle.fa_lanes.proofs.Loading.{loaded_block, loaded_next, loaded_none}
use Rattle.fa_lanes.proofs.hash.block_words.Goals as goal

pub load-init : goal.load-init
load-init c = loaded_none _ _ refl

pub load-preserved : goal.load-preserved
load-preserved c = loaded_next c.load.w c.load.k _ _ (omega arith) c.load.invariant c.words.ensures

pub returns : goal.returns
returns c = loaded_block c.load.w c.load.k c.args.at (message c.args.messages.now) (omega arith) c.load.invariant
