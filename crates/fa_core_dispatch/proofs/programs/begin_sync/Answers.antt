use Rattle.fa_machine.specs.Taking.{handed}
use Rattle.fa_core_state.specs.Core.{core_of}
use Rattle.fa_core_dispatch.proofs.Others.{sync_begins}
use Rattle.std.proofs.Common.{Some, ◌∙◌}
use Rattle.fa_core_dispatch.proofs.programs.begin_sync.Goals as goal

pub returns-in-Some-clause-begins : goal.returns-in-Some-clause-begins
returns-in-Some-clause-begins g c =
    (λ i. (Some (handed c.in-Some.flight), c.set_job.ensures.set i))
    ∙ sync_begins (core_of g.M.Map.view c.args.state.now) c.args.die.0 c.args.seat c.in-Some.flight c.in-Some.ensures
