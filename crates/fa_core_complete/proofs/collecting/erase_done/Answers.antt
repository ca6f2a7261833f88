use Rattle.fa_core_complete.proofs.Ended.{at_job}
use Rattle.fa_core_complete.proofs.collecting.erase_done.Goals as goal
use Rattle.fa_machine.specs.State.{Core, is_live}
use Rattle.fa_core_state.specs.Core.{core_of}
use Rattle.std.proofs.Common.{Some, ap, sym, ◌∙◌}

pub empty-requires-clause-live : goal.empty-requires-clause-live
empty-requires-clause-live g c =
    ap (λ (core : Core). is_live core.page_map c.args.die.0) c.end_job.ensures.over
    ∙ at_job (core_of g.M.Map.view c.args.state.now) c.requires.sound c.args.die.0 _ (sym c.in-Some.ensures ∙ ap Some c.in-Erase.is)
