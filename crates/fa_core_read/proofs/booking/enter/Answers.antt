use Rattle.fa_core_batches.specs.Batches.{state_of}
use Rattle.fa_core_read.proofs.Placed.{left_open, left_there, next_left}
use Rattle.fa_core_read.proofs.booking.enter.Goals as goal

pub set-requires-clause-there : goal.set-requires-clause-there
set-requires-clause-there g c =
    left_there _ (next_left (state_of c.args.batches.now c.args.batch.0) c.args.places.now c.loop-place.place-index c.args.batch.0 _ _
    c.loop-place-test.true c.requires (c.loop-place.invariant.1 c.args.batch.0 _))

pub set-requires-clause-open : goal.set-requires-clause-open
set-requires-clause-open g c =
    left_open _ (next_left (state_of c.args.batches.now c.args.batch.0) c.args.places.now c.loop-place.place-index c.args.batch.0 _ _
    c.loop-place-test.true c.requires (c.loop-place.invariant.1 c.args.batch.0 _))
