use Rattle.std.proofs.Common.{◌≡◌, ℕ, ◌+◌, ◌≤◌, length, arith}
use Rattle.fa_plan.specs.Bound.{IsSimpleBound}
use Rattle.fa_plan.proofs.Making.{if_ok_both}
use Rattle.fa_plan.proofs.planner.plan_in.Goals as goal

pub returns-clause-searches : goal.returns-clause-searches
returns-clause-searches g c =
    let p = c.pages.progress in
    let few = c.pages.invariant.few in
    let short = c.pages.invariant.given.short in
    if_ok_both (λ planned. planned.searches ≡ p.searches) (λ planned. planned.rounds ≡ p.rounds)
    (λ planned. (first : ℕ) → IsSimpleBound c.args.batch.now (g.R.Rounds.current c.args.calendar.now) (g.R.Rounds.closed c.args.calendar.now) first → planned.searches + first ≤ length c.args.batch.now + planned.rounds)
    c.finish.result (λ planned searches rounds first bound. let at = few first bound in omega (arith, searches, rounds, at, short)) c.finish.ensures.searches c.finish.ensures.rounds
