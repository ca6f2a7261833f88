use Rattle.std.proofs.Common.{◌++◌, arith, refl}
use Rattle.sha2.specs.Sha256.{padding}
use Rattle.fa_lanes.specs.Lanes.{message}
use Rattle.fa_lanes.proofs.Loading.{loaded_block, loaded_next, loaded_none}
use Rattle.fa_lanes.proofs.hash.last_words.Goals as goal

pub load-init : goal.load-init
load-init c = λ n all. loaded_none _ _ refl

pub load-preserved : goal.load-preserved
load-preserved c = λ n all. loaded_next c.load.w c.load.k _ _ (omega arith) (c.load.invariant n all) (c.padded_words.ensures n all)

pub returns : goal.returns
returns c = λ n all.
    loaded_block c.load.w c.load.k c.args.at (λ i. message c.args.tails.now i ++ padding n) (omega arith) (c.load.invariant n all)
