use Rattle.fa_core_complete.proofs.Ended.{at_job}
use Rattle.fa_core_complete.proofs.Moved.{from_inside, may_keep, to_inside}
use Rattle.fa_core_complete.proofs.collecting.move_done.Goals as goal
use Rattle.fa_machine.specs.Copies.{is_current}
use Rattle.fa_machine.specs.State.{Core, MapState, is_live}
use Rattle.fa_machine.specs.declared.places.Used.TheVariants.{Stale}
use Rattle.fa_map_calls.specs.Changes.{MayKeep, with_used}
use Rattle.fa_core_state.specs.Core.{core_of}
use Rattle.std.proofs.Common.{Some, ap, subst, sym, true, ◌*◌, ◌<◌, ◌∙◌, ◌≡◌}

pub settle-requires-clause-live : goal.settle-requires-clause-live
settle-requires-clause-live g c =
    ap (λ (core : Core). is_live core.page_map c.args.die.0) c.end_job.ensures.over
    ∙ at_job (core_of g.M.Map.view c.args.state.now) c.requires.sound c.args.die.0 _ (sym c.in-Some.ensures ∙ ap Some c.in-Move.is)

pub settle-requires-clause-from : goal.settle-requires-clause-from
settle-requires-clause-from g c =
    subst (λ (m : MapState). c.in-Move.from.0 < m.geometry.blocks * m.geometry.slots)
    (sym (ap (λ (core : Core). core.page_map) c.end_job.ensures.over))
    (from_inside (core_of g.M.Map.view c.args.state.now) c.requires.sound (g.met.M.Map.whole c.args.state.now.page_map) c.args.die.0
    c.in-Move.page c.in-Move.version c.in-Move.from c.in-Move.to (sym c.in-Some.ensures ∙ ap Some c.in-Move.is))

pub settle-requires-clause-to : goal.settle-requires-clause-to
settle-requires-clause-to g c =
    subst (λ (m : MapState). c.in-Move.to.0 < m.geometry.blocks * m.geometry.slots)
    (sym (ap (λ (core : Core). core.page_map) c.end_job.ensures.over))
    (to_inside (core_of g.M.Map.view c.args.state.now) c.requires.sound (g.met.M.Map.whole c.args.state.now.page_map) c.args.die.0
    c.in-Move.page c.in-Move.version c.in-Move.from c.in-Move.to (sym c.in-Some.ensures ∙ ap Some c.in-Move.is))

pub settle-requires-clause-keeps : goal.settle-requires-clause-keeps
settle-requires-clause-keeps g c =
    subst (λ (m : MapState). is_current m c.in-Move.page.0 c.args.die.0 c.in-Move.from.0 ≡ true
    → MayKeep (with_used c.args.die.0 c.in-Move.from.0 Stale m) c.in-Move.page c.in-Move.version c.args.die.0 c.in-Move.to.0)
    (sym (ap (λ (core : Core). core.page_map) c.end_job.ensures.over))
    (may_keep (core_of g.M.Map.view c.args.state.now) c.requires.sound (g.met.M.Map.whole c.args.state.now.page_map) c.args.die.0
    c.in-Move.page c.in-Move.version c.in-Move.from c.in-Move.to (sym c.in-Some.ensures ∙ ap Some c.in-Move.is))
