use Rattle.fa_machine.proofs.Lists.{found_passes}
use Rattle.fa_machine.specs.Taking.{begins, handed, is_for, program_of, sync_job}
use Rattle.fa_core_state.specs.Core.{core_of}
use Rattle.fa_core_tables.specs.Queues.{program_of as waiting_program}
use Rattle.fa_core_dispatch.proofs.Others.{none_out}
use Rattle.std.proofs.Common.{ap, eqb-true, subst, sym, ◌<◌, ◌∙◌}
use Rattle.std.specs.Option.{option_or}
use Rattle.std.specs.Prelude.{option_map}
use Rattle.fa_core_dispatch.proofs.programs.begin_other.Goals as goal

pub is_lasting-lasting-requires-clause-page : goal.is_lasting-lasting-requires-clause-page
is_lasting-lasting-requires-clause-page g c =
    let core = core_of g.M.Map.view c.args.state.now in
    let p = waiting_program c.in-Some.program in
    (c.requires.ready.programs p (found_passes (is_for c.args.die.0) core.waiting p (sym c.in-Some.ensures.oldest)).1).inside

pub is_lasting-lasting-requires-clause-die : goal.is_lasting-lasting-requires-clause-die
is_lasting-lasting-requires-clause-die g c =
    let core = core_of g.M.Map.view c.args.state.now in
    let p = waiting_program c.in-Some.program in
    let on = (found_passes (is_for c.args.die.0) core.waiting p (sym c.in-Some.ensures.oldest)).0 in
    subst (λ d. d < core.page_map.geometry.dies) (sym (eqb-true p.die c.args.die.0 on)) c.requires.inside

pub returns-in-None-clause-begins : goal.returns-in-None-clause-begins
returns-in-None-clause-begins g c =
    let core = core_of g.M.Map.view c.args.state.now in
    let die = c.args.die.0 in let seat = c.args.seat in
    c.begin_sync.ensures.begins
    ∙ ap (λ waiting. begins die seat (record core { waiting = waiting }) (option_map handed (sync_job core die)))
    (c.in-None.ensures.waiting ∙ none_out (is_for die) core.waiting c.in-None.ensures.oldest)
    ∙ ap (λ o. begins die seat core (option_or (option_map (program_of core.page_map) o) (option_map handed (sync_job core die)))) c.in-None.ensures.oldest
