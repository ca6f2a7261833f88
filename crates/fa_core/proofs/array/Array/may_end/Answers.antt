use Rattle.fa_core.proofs.Tests.{found_passes}
use Rattle.fa_core.specs.Array.{state_of}
use Rattle.fa_core_outcome.specs.Outcomes.{outcome_of}
use Rattle.fa_machine.specs.Cells.{is_of_kind}
use Rattle.fa_machine.specs.Step.{is_sized as rule_sized}
use Rattle.std.proofs.Common.{false, sym, true, ◌∙◌}
use Rattle.std.specs.FinMap.{get}
use Rattle.fa_core.proofs.array.Array.may_end.Goals as goal

pub returns-then-may_end_by : goal.returns-then-may_end_by
returns-then-may_end_by g c =
    let core = state_of g.M.Map.view c.args.self.now in
    c.is_sized.ensures
    ∙ sym (found_passes (get core.jobs c.args.die.0) c.in-Some.job (λ job. is_of_kind job (outcome_of c.args.outcome c.args.bytes.now))
    (rule_sized core c.args.bytes.now) true (sym c.get.ensures ∙ c.in-Some.is)
    (sym (c.may_end_by.ensures c.args.bytes.now) ∙ c.if-may_end_by.true))

pub returns-else-may_end_by : goal.returns-else-may_end_by
returns-else-may_end_by g c =
    let core = state_of g.M.Map.view c.args.self.now in
    c.if-may_end_by.false
    ∙ sym (found_passes (get core.jobs c.args.die.0) c.in-Some.job (λ job. is_of_kind job (outcome_of c.args.outcome c.args.bytes.now))
    (rule_sized core c.args.bytes.now) false (sym c.get.ensures ∙ c.in-Some.is)
    (sym (c.may_end_by.ensures c.args.bytes.now) ∙ c.if-may_end_by.false))
