use Rattle.std.proofs.Common.{◌≡◌, arith}
use Rattle.sha2.specs.Sha256.{hash_after}
use Rattle.fa_lanes.specs.Lanes.{message}
use Rattle.fa_lanes.proofs.Chaining.{taken_next}
use Rattle.fa_lanes.proofs.four.take_blocks_of_four.Goals as goal

pub rounds-init : goal.rounds-init
unfolding hash_after
rounds-init c = record { lanes = λ l lt. c.initial_states-state.ensures.lanes l lt; twice = c.initial_states-state.ensures.twice }

pub rounds-preserved : goal.rounds-preserved
rounds-preserved c = record {
  lanes = λ l lt.
      taken_next _ (message c.args.messages.now l) c.rounds.i _ _ _ (omega arith) (c.rounds.invariant.lanes l lt)
      (c.compress.ensures.lanes _ l lt c.rounds.invariant.twice c.block_words-block.ensures.twice (c.block_words-block.ensures.lanes l lt));
  twice = c.compress.ensures.twice;
}

pub returns : goal.returns
returns c = λ l lt.
    let done : c.rounds.i ≡ c.args.count = omega arith in
    rw done at (c.rounds.invariant.lanes l lt)
