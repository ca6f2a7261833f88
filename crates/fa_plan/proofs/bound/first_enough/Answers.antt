use Rattle.std.proofs.Common.{◌+◌, arith}
use Rattle.fa_plan.proofs.Bounds.{places_in_time}
use Rattle.fa_plan.proofs.bound.first_enough.Goals as goal

pub halves-init : goal.halves-init
halves-init g c =
    let current = g.R.Rounds.current c.args.calendar.now in
    let closed = g.R.Rounds.closed c.args.calendar.now in
    let in_time = places_in_time current closed (g.met.R.Rounds.few_closed c.args.calendar.now) c.args.dies.now c.requires.some in
    let at_low = in_time c.args.low in
    let at_limit = in_time (c.args.pages + 1048576) in
    let low = c.requires.low in
    record {
      later = omega arith;
      between = omega (arith, at_low, low);
      limit = omega arith;
      moves = omega arith;
      too_few = low;
      enough = omega (arith, at_limit);
    }
