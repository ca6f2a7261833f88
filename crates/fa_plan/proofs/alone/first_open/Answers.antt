use Rattle.std.proofs.Common.{◌+◌, ◌≤◌, length, arith}
use Rattle.fa_plan.proofs.OnePage.{first_is_next, first_of_all, first_of_one, first_stays}
use Rattle.fa_plan.proofs.alone.first_open.Goals as goal
use Rattle.fa_plan.proofs.alone.first_open.Goals.{then-other-round, else-other-round}

pub dies-init : goal.dies-init
dies-init g c = first_of_one (g.R.Rounds.current c.args.calendar.now) (g.R.Rounds.closed c.args.calendar.now) c.args.dies.now _ c.requires.some c.nth_open-round.ensures

pub dies-preserved : goal.dies-preserved
dies-preserved g c =
    let current = g.R.Rounds.current c.args.calendar.now in
    let closed = g.R.Rounds.closed c.args.calendar.now in
    elim c.if-other-round.branch [
      | then-other-round w ↦ rw (w.die-is, w.round-is)
          (first_is_next current closed c.args.dies.now c.dies.i c.dies.die.0 c.dies.round.0 c.nth_open-other.result.0 (omega arith) c.dies.invariant c.nth_open-other.ensures (omega arith))
      | else-other-round w ↦ rw (w.die-is, w.round-is)
          (first_stays current closed c.args.dies.now c.dies.i c.dies.die.0 c.dies.round.0 c.nth_open-other.result.0 (omega arith) c.dies.invariant c.nth_open-other.ensures (omega arith))
    ]

pub returns : goal.returns
returns g c =
    first_of_all (g.R.Rounds.current c.args.calendar.now) (g.R.Rounds.closed c.args.calendar.now) c.args.dies.now c.dies.i c.dies.die.0 c.dies.round.0
    (g.met.R.Rounds.few_closed c.args.calendar.now) (omega arith) c.dies.invariant
