use Rattle.fa_core_state.specs.Core.{core_of}
use Rattle.fa_core_dispatch.proofs.Steps.{may_begin}
use Rattle.fa_core_dispatch.proofs.collecting.step_job.Goals as goal

pub returns-then-is_due-clause-may : goal.returns-then-is_due-clause-may
returns-then-is_due-clause-may g c =
    may_begin (core_of g.M.Map.view c.args.state.now) c.args.die.0 c.flight_of.result c.flight_of.ensures.may
