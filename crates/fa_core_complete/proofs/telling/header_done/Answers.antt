use Rattle.fa_core_complete.proofs.Ended.{at_job}
use Rattle.fa_core_complete.proofs.telling.header_done.Goals as goal
use Rattle.fa_machine.specs.State.{Core}
use Rattle.fa_core_state.specs.Core.{core_of}
use Rattle.std.proofs.Common.{Some, ap, subst, sym, ◌<◌, ◌∙◌}

pub catch_up-requires-clause-inside : goal.catch_up-requires-clause-inside
catch_up-requires-clause-inside g c =
    subst (λ (core : Core). c.args.die.0 < core.page_map.geometry.dies) (sym c.end_job.ensures.over)
    ((g.met.M.Map.whole c.args.state.now.page_map).live c.args.die.0
    (at_job (core_of g.M.Map.view c.args.state.now) c.requires.sound c.args.die.0 _ (sym c.in-Some.ensures ∙ ap Some c.in-Header.is)))
