use Rattle.std.proofs.Common.{◌+◌, take, get_or, refl, sym, subst, arith}
use Rattle.fa_batch.proofs.Batches.{page_at}
use Rattle.fa_plan_search.specs.Reading.{no_die, no_entry}
use Rattle.fa_plan.specs.Progress.{AreSeats}
use Rattle.fa_plan.proofs.Seats.{seats_more}
use Rattle.fa_plan.proofs.planner.list_seats.Goals as goal

pub loop-index-preserved : goal.loop-index-preserved
loop-index-preserved g c =
    let i = c.loop-index.index in
    subst (λ v. AreSeats (take (i + 1) c.args.batch.now) (take (i + 1) c.args.given.now) v) (sym c.in_ok-push.ensures.items)
    (seats_more c.args.batch.now c.args.given.now i c.loop-index.seats.items c.page.result (get_or c.args.given.now i no_die) no_die (omega arith) (omega arith)
    (page_at c.args.batch.now i c.page.result (omega arith) c.page.ensures no_entry) refl c.loop-index.invariant)
