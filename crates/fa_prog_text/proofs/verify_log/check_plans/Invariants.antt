use Rattle.std.proofs.Common.{◌≡◌, ◌+◌}
use Rattle.fa_prog_text.proofs.verify_log.check_plans.Given as goal

abbrev pub invariant-loop-number : goal.invariant-loop-number
invariant-loop-number g l = (l.tally.plans ≡ l.tally.least + l.tally.refused) × (l.tally.plans + 1 ≡ l.number)
