use Rattle.fa_plan.specs.Progress.{IsProgress, steps_left}
use Rattle.fa_plan.proofs.planner.plan_in.Given as goal

abbrev pub invariant-pages : goal.invariant-pages
invariant-pages g l = IsProgress l.batch (g.R.Rounds.current l.calendar) (g.R.Rounds.closed l.calendar) l.progress

abbrev pub decreases-pages : goal.decreases-pages
decreases-pages g l = steps_left l.batch l.progress
