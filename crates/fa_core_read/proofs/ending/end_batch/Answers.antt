use Rattle.fa_core_batches.specs.Batches.{batches_of}
use Rattle.fa_core_batches.specs.Pages.{opened}
use Rattle.fa_core_bookings.specs.Bookings.{calendar_of}
use Rattle.fa_core_tables.specs.Dies.{by_die}
use Rattle.fa_core_read.proofs.Ended.{fitted_ended}
use Rattle.fa_core_read.proofs.Released.{released_is}
use Rattle.fa_core_read.proofs.ending.end_batch.Goals as goal
use Rattle.fa_core_state.specs.Core.{core_of}
use Rattle.std.proofs.Common.{◌∙◌}

pub returns-clause-ends : goal.returns-clause-ends
returns-clause-ends g c =
    let state = c.args.state.now in let calendar = calendar_of state.bookings in
    let free = c.release_batch.ensures.released
    ∙ released_is state.batches calendar (by_die state.jobs) c.requires.fitted.tracked c.args.batch.0
    (opened (batches_of state.batches) c.args.batch.0).pages c.release_batch.ensures.whole in (
      c.end.ensures.answers,
      (λ i. record (core_of g.M.Map.view state) { calendar = free i; batches = c.end.ensures.ended i }),
    )

pub returns-clause-fitted : goal.returns-clause-fitted
returns-clause-fitted g c =
    let state = c.args.state.now in let calendar = calendar_of state.bookings in
    fitted_ended g.M.Map.view state c.requires.fitted c.release_batch.new.bookings c.end.new.self c.args.batch.0
    (c.release_batch.ensures.released
    ∙ released_is state.batches calendar (by_die state.jobs) c.requires.fitted.tracked c.args.batch.0
    (opened (batches_of state.batches) c.args.batch.0).pages c.release_batch.ensures.whole)
    c.end.ensures.states c.end.ensures.ended c.end.ensures.number c.end.ensures.bytes
