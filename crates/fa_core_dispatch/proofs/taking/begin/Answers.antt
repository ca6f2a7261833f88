use Rattle.fa_machine.specs.Taking.{begun}
use Rattle.fa_core_state.specs.Core.{core_of}
use Rattle.std.proofs.Common.{ap, sym, ◌∙◌}
use Rattle.fa_core_dispatch.proofs.taking.begin.Goals as goal

pub returns-in-Move-clause-begun : goal.returns-in-Move-clause-begun
returns-in-Move-clause-begun g c =
    c.begin_move.ensures.begun c.args.seat
    ∙ ap (λ flight. begun c.args.die.0 c.args.seat flight (core_of g.M.Map.view c.args.state.now)) (sym c.in-Move.is)
