use Rattle.std.proofs.Common.{ap, arith}
use Rattle.fa_types.specs.Open.{rounds_that}
use Rattle.fa_closed.specs.Runs.{is_covered}
use Rattle.fa_calendar.specs.DieState.{DieState}
use Rattle.fa_calendar.proofs.Totals.{total_bounds, total_reached}
use Rattle.fa_calendar.proofs.die.DieCalendar.entries.Goals as goal

pub returns-clause-most : goal.returns-clause-most
returns-clause-most g c = λ from n.
    let seen = ap (λ (d : DieState). rounds_that (is_covered d.spans) from n) c.self.view_is in
    let bound = total_bounds c.self.inside.spans.items c.self.invariant.merged from n in
    let counted = c.self.invariant.counted in
    omega (arith, seen, bound, counted)

pub returns-clause-reached : goal.returns-clause-reached
returns-clause-reached g c =
    let all = total_reached c.self.inside.spans.items c.self.invariant.merged in
    let seen = ap (λ (d : DieState). rounds_that (is_covered d.spans) 0 all.0) c.self.view_is in
    let is = all.1 in
    let counted = c.self.invariant.counted in
    (all.0, omega (arith, seen, is, counted))
