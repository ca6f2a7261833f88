-- A plan is handed out as the planner made it.
use Rattle.fa_core_calls.specs.Answers.{IsHandedOut}
use Rattle.fa_plan.specs.declared.planner.Planned.{Planned}
use Rattle.std.proofs.Common.{subst, ℕ, ◌*◌, ◌+◌, ◌≡◌, ◌≤◌}
use Rattle.std.specs.Prelude.{Err, IfOk, Ok, Result}

pub handed_out : {A E : Type 0} (entries pages : ℕ) → entries ≡ pages → (r : Result (Planned A) E) → IfOk r (λ p. p.plan.rounds ≡ p.rounds)
    → IfOk r (λ p. entries ≤ p.searches) → IfOk r (λ p. p.searches ≤ entries + p.rounds) → IfOk r (λ p. p.looks ≤ p.searches * entries)
    → IfOk r (IsHandedOut pages)
handed_out entries pages same (Ok p) rounds counted searches looks =
    subst (λ n. IsHandedOut n p) same (record { rounds = rounds; counted = counted; searches = searches; looks = looks })
handed_out entries pages same (Err e) rounds counted searches looks = rounds
