use Rattle.std.proofs.Common.{◌≡◌, arith}
use Rattle.sha2.specs.Sha256.{hash_after}
use Rattle.fa_lanes.specs.Lanes.{message}
use Rattle.fa_lanes.proofs.Chaining.{taken_next}
use Rattle.fa_lanes.proofs.hash.take_blocks.Goals as goal

pub rounds-init : goal.rounds-init
unfolding hash_after
rounds-init c = λ l lt. c.initial_states-state.ensures l lt

pub rounds-preserved : goal.rounds-preserved
rounds-preserved c = λ l lt.
    taken_next _ (message c.args.messages.now l) c.rounds.i _ _ _ (omega arith) (c.rounds.invariant l lt)
    (c.compress.ensures _ l lt (c.block_words-block.ensures l lt))

pub returns : goal.returns
returns c = λ l lt.
    let done : c.rounds.i ≡ c.args.count = omega arith in
    rw done at (c.rounds.invariant l lt)
