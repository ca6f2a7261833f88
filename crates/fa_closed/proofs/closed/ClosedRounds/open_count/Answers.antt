use Rattle.std.proofs.Common.{ap, ◌∙◌, arith, [], slice_index_or}
use Rattle.fa_types.specs.Open.{rounds_that}
use Rattle.fa_closed.specs.Runs.{is_covered}
use Rattle.fa_closed.proofs.Windows.{rounds_that-not}
use Rattle.fa_closed.proofs.closed.ClosedRounds.open_count.Goals as goal

pub overflow_sub-result : goal.overflow_sub-result
overflow_sub-result g c =
    let all = rounds_that-not (is_covered c.spans.result.now) c.args.self.now.current c.args.rounds in
    omega (arith, all, c.count.ensures)

pub returns : goal.returns
returns g c =
    let count = c.count.ensures ∙ ap (λ v. rounds_that (is_covered v) c.args.self.now.current c.args.rounds) c.spans.ensures in
    let all = rounds_that-not (is_covered (slice_index_or c.args.self.now.dies.items c.args.die.0 [])) c.args.self.now.current c.args.rounds in
    omega (arith, all, count)
