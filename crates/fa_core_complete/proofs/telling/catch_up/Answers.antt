use Rattle.fa_core_complete.proofs.telling.catch_up.Goals as goal
use Rattle.fa_core_state.specs.Core.{core_of}
use Rattle.std.proofs.Common.{ap, cond, eq-eqb, sym, ◌∙◌}
use Rattle.std.proofs.lemmas.Bool.{ne_eqb}
use Rattle.std.specs.FinMap.{remove}

pub returns-then-epoch-state-clause-told : goal.returns-then-epoch-state-clause-told
returns-then-epoch-state-clause-told g c =
    let core = core_of g.M.Map.view c.args.state.now in
    (λ i. record core { behind = c.remove.ensures.members i })
    ∙ sym (ap (λ b. cond b (record core { behind = remove core.behind c.args.die.0 }) core)
    (eq-eqb c.args.epoch c.args.state.now.epoch c.if-epoch-state.true))

pub returns-else-epoch-state-clause-told : goal.returns-else-epoch-state-clause-told
returns-else-epoch-state-clause-told g c =
    let core = core_of g.M.Map.view c.args.state.now in
    sym (ap (λ b. cond b (record core { behind = remove core.behind c.args.die.0 }) core)
    (ne_eqb c.args.epoch c.args.state.now.epoch c.if-epoch-state.false))
