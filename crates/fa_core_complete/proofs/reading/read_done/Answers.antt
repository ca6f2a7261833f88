use Rattle.fa_core_complete.proofs.Ended.{at_job, read_answered, read_lost}
use Rattle.fa_core_complete.proofs.reading.read_done.Goals as goal
use Rattle.fa_core_outcome.specs.Outcomes.{cell_of}
use Rattle.fa_core_state.specs.Core.{core_of}
use Rattle.std.proofs.Common.{None, Some, ap, cond, sym, ◌∙◌}

pub lose_die-requires-clause-live : goal.lose_die-requires-clause-live
lose_die-requires-clause-live g c =
    at_job (core_of g.M.Map.view c.args.state.now) c.requires.sound c.args.die.0 _ (sym c.in-Some.ensures ∙ ap Some c.in-Read.is)

pub returns-then-is_copy-clause-ends : goal.returns-then-is_copy-clause-ends
returns-then-is_copy-clause-ends g c =
    let payload = c.args.buffer.now.items in
    read_answered (core_of g.M.Map.view c.args.state.now) (core_of g.M.Map.view c.answer.new.state) c.args.die.0 c.in-Read.batch
    c.in-Read.page c.in-Read.version c.in-Read.slot (cell_of c.args.opened payload) (sym c.in-Some.ensures ∙ ap Some c.in-Read.is) payload
    (c.is_copy.ensures payload ∙ ap (λ b. cond b (Some payload) None) c.if-is_copy.true) c.answer.ensures.answered

pub returns-else-is_copy-clause-ends : goal.returns-else-is_copy-clause-ends
returns-else-is_copy-clause-ends g c =
    let payload = c.args.buffer.now.items in
    read_lost (core_of g.M.Map.view c.args.state.now) (core_of g.M.Map.view c.lose_die.new.state) c.args.die.0 c.in-Read.batch
    c.in-Read.page c.in-Read.version c.in-Read.slot (cell_of c.args.opened payload) (sym c.in-Some.ensures ∙ ap Some c.in-Read.is)
    (c.is_copy.ensures payload ∙ ap (λ b. cond b (Some payload) None) c.if-is_copy.false) c.lose_die.ensures.dropped
