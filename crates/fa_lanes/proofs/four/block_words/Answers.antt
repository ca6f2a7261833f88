use Rattle.std.proofs.Common.{arith, refl}
use Rattle.fa_lanes.specs.Lanes.{message}
use Rattle.fa_lanes.proofs.WideLoading.{wide_loaded_block, wide_loaded_next, wide_loaded_none, wide_loaded_twice}
use Rattle.fa_lanes.proofs.four.block_words.Goals as goal

pub load-init : goal.load-init
load-init c = wide_loaded_none _ _ refl

pub load-preserved : goal.load-preserved
load-preserved c = wide_loaded_next c.load.w c.load.k _ _ (omega arith) c.load.invariant c.words.ensures.low c.words.ensures.twice

pub returns-clause-lanes : goal.returns-clause-lanes
returns-clause-lanes c = wide_loaded_block c.load.w c.load.k c.args.at (message c.args.messages.now) (omega arith) c.load.invariant

pub returns-clause-twice : goal.returns-clause-twice
returns-clause-twice c = wide_loaded_twice c.load.w c.load.k _ (omega arith) c.load.invariant
