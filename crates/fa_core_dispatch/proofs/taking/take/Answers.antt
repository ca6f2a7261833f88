use Rattle.fa_core_state.specs.Core.{core_of}
use Rattle.fa_core_dispatch.proofs.Others.{no_job}
use Rattle.std.proofs.Common.{sym, ◌∙◌}
use Rattle.fa_core_dispatch.proofs.taking.take.Goals as goal

pub take_idle-requires-clause-idle : goal.take_idle-requires-clause-idle
take_idle-requires-clause-idle g c =
    no_job (core_of g.M.Map.view c.args.state.now) c.args.die.0 (sym c.is_idle.ensures ∙ c.if-is_idle.true)
