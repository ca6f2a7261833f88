use Rattle.fa_plan.specs.Giving.{IsHandingOn}
use Rattle.fa_plan_search.specs.Search.{rank_of}
use Rattle.fa_plan.proofs.giving.give.Given as goal

abbrev pub invariant-hand_on : goal.invariant-hand_on
invariant-hand_on g l = IsHandingOn l.batch l.fn.given.items l.walk l.free.0 l.given.items l.die l.page

abbrev pub decreases-hand_on : goal.decreases-hand_on
decreases-hand_on g l = rank_of l.walk l.die.0
