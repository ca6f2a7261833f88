use Rattle.std.proofs.Common.{◌<◌, ◌≤◌, ◌+◌, ◌-◌}
use Rattle.fa_plan.specs.Bound.{places_of}
use Rattle.fa_plan.proofs.bound.first_enough.Given as goal

abbrev pub invariant-halves : goal.invariant-halves
invariant-halves g l = record {
  later : l.fn.low ≤ l.fewer;
  between : l.fewer < l.enough;
  limit : l.enough ≤ l.pages + 1048576;
  moves : 1 ≤ l.stride;
  too_few : places_of (g.R.Rounds.current l.calendar) (g.R.Rounds.closed l.calendar) l.dies l.fewer < l.pages;
  enough : l.pages ≤ places_of (g.R.Rounds.current l.calendar) (g.R.Rounds.closed l.calendar) l.dies l.enough;
}

abbrev pub decreases-halves : goal.decreases-halves
decreases-halves g l = l.enough - l.fewer
