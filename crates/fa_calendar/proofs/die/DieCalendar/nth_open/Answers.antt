use Rattle.std.proofs.Common.{arith}
use Rattle.fa_calendar.proofs.Merged.{merged_rising}
use Rattle.fa_calendar.proofs.Totals.{total_bounds}
use Rattle.fa_calendar.proofs.die.DieCalendar.nth_open.Goals as goal

pub nth_uncovered-requires-clause-rising : goal.nth_uncovered-requires-clause-rising
nth_uncovered-requires-clause-rising g c = merged_rising c.self.inside.spans.items c.self.invariant.merged

pub nth_uncovered-requires-clause-few : goal.nth_uncovered-requires-clause-few
nth_uncovered-requires-clause-few g c = λ m.
    let all = total_bounds c.self.inside.spans.items c.self.invariant.merged c.args.from m in
    omega (arith, all, c.self.invariant.few)
