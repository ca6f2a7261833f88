use Rattle.fa_plan.proofs.OnePage.{IsFirstBelow}
use Rattle.fa_plan.proofs.alone.first_open.Given as goal

abbrev pub invariant-dies : goal.invariant-dies
invariant-dies g l = IsFirstBelow (g.R.Rounds.current l.calendar) (g.R.Rounds.closed l.calendar) l.dies l.i l.die.0 l.round.0
