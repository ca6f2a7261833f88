use Rattle.fa_plan.proofs.Reached.{some_marked, marked_are_few, raised_from_first}
use Rattle.fa_plan.proofs.shortage.rounds_for.Goals as goal

pub first_enough-requires-clause-some : goal.first_enough-requires-clause-some
first_enough-requires-clause-some g c = some_marked c.args.batch.now c.args.pages.now c.holders_of-dies.result c.holders_of-dies.ensures.long c.holders_of-dies.ensures.marks c.requires.fine c.requires.named c.requires.some

pub first_enough-requires-clause-low : goal.first_enough-requires-clause-low
first_enough-requires-clause-low g c =
    marked_are_few c.args.batch.now c.args.pages.now c.holders_of-dies.result c.holders_of-dies.ensures.long c.holders_of-dies.ensures.marks
    (g.R.Rounds.current c.args.calendar.now) (g.R.Rounds.closed c.args.calendar.now) c.args.low c.requires.low

pub returns : goal.returns
returns g c =
    raised_from_first c.args.batch.now c.args.pages.now c.holders_of-dies.result c.holders_of-dies.ensures.long c.holders_of-dies.ensures.marks
    (g.R.Rounds.current c.args.calendar.now) (g.R.Rounds.closed c.args.calendar.now) c.requires.named c.args.low c.first_enough.result c.first_enough.ensures
