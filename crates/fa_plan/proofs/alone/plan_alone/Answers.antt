use Rattle.std.proofs.Common.{◌+◌, ◌-◌, arith}
use Rattle.fa_plan.proofs.OnePage.{planned}
use Rattle.fa_plan.proofs.alone.plan_alone.Goals as goal

pub returns-clause-certificate : goal.returns-clause-certificate
returns-clause-certificate g c =
    let now = c.now.ensures in
    (planned (g.R.Rounds.current c.args.calendar.now) (g.R.Rounds.closed c.args.calendar.now) c.holders_at.result.now c.page.result c.first_open.result.0
    c.first_open.result.1 c.first_open.ensures c.args.batch.now c.take_places-places.result c.push.new.self c.in_ok-shortage.shortage
    (c.first_open.result.1.0 - c.now.result.0 + 1) c.requires.alone c.holders_at.ensures c.page.ensures c.take_places-places.ensures c.in_ok-push.ensures.ok
    c.in_ok-shortage.ensures (omega (arith, now))).0

pub returns-clause-searches : goal.returns-clause-searches
returns-clause-searches g c = λ first bound.
    let now = c.now.ensures in
    let alone = c.requires.alone in
    let low = (planned (g.R.Rounds.current c.args.calendar.now) (g.R.Rounds.closed c.args.calendar.now) c.holders_at.result.now c.page.result c.first_open.result.0
    c.first_open.result.1 c.first_open.ensures c.args.batch.now c.take_places-places.result c.push.new.self c.in_ok-shortage.shortage
    (c.first_open.result.1.0 - c.now.result.0 + 1) alone c.holders_at.ensures c.page.ensures c.take_places-places.ensures c.in_ok-push.ensures.ok
    c.in_ok-shortage.ensures (omega (arith, now))).2 first bound in
    omega (arith, low, alone)
