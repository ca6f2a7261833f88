use Rattle.std.proofs.Common.{◌<◌, arith}
use Rattle.std.proofs.lemmas.Bool.{iff_false}
use Rattle.fa_cert.proofs.Marked.{shows_iff}
use Rattle.fa_cert.proofs.checker.refusal_of_shortage.Goals as goal

pub returns-then-not-are_more : goal.returns-then-not-are_more
returns-then-not-are_more g c =
    let some : 0 < c.args.rounds = (let no = c.if-rounds-eq0.false in omega (arith, no)) in
    let shows = shows_iff c.args.batch.now (g.R.Rounds.current c.args.calendar.now) (g.R.Rounds.closed c.args.calendar.now) c.args.pages.now c.in-Some.dies
    c.in-Some.ensures.1.long c.in-Some.ensures.1.marks_are c.args.rounds c.are_more.result some c.in-Some.ensures.0 c.are_more.ensures.0 c.are_more.ensures.1 in
    λ places plan same. (plan, same, c.in-Some.ensures.0, iff_false shows c.if-not-are_more.true)

pub returns-else-not-are_more : goal.returns-else-not-are_more
returns-else-not-are_more g c =
    let some : 0 < c.args.rounds = (let no = c.if-rounds-eq0.false in omega (arith, no)) in
    let shows = shows_iff c.args.batch.now (g.R.Rounds.current c.args.calendar.now) (g.R.Rounds.closed c.args.calendar.now) c.args.pages.now c.in-Some.dies
    c.in-Some.ensures.1.long c.in-Some.ensures.1.marks_are c.args.rounds c.are_more.result some c.in-Some.ensures.0 c.are_more.ensures.0 c.are_more.ensures.1 in
    shows.0 c.if-not-are_more.false
