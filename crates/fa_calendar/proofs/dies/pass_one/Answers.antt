use Rattle.std.proofs.Common.{ap, arith, sym, ◌∙◌}
use Rattle.std.proofs.lemmas.List.{get_or-set_other}
use Rattle.fa_closed.specs.Runs.{is_covered}
use Rattle.fa_calendar.specs.DieState.{DieState}
use Rattle.fa_calendar.specs.Dies.{no_rounds}
use Rattle.fa_calendar.proofs.Idle.{one_opened, one_roomy, one_window, state_is}
use Rattle.fa_calendar.proofs.dies.pass_one.Goals as goal

pub pass-requires : goal.pass-requires
pass-requires g c r low =
    ap (λ (s : DieState). is_covered s.spans r) (sym (state_is c.args.dies.now.items c.args.die c.index_mut.result.now
    (omega (arith, c.requires.long, c.requires.within)) c.index_mut.ensures.value))
    ∙ c.requires.past r low

pub returns-clause-roomy : goal.returns-clause-roomy
returns-clause-roomy g c =
    one_roomy c.args.dies.now.items c.args.die c.index_mut.result.now c.pass.new.self c.args.round
    (omega (arith, c.requires.long, c.requires.within)) c.index_mut.ensures.value c.pass.ensures.opened c.pass.ensures.window
    c.requires.roomy c.pass.ensures.roomy

pub returns-clause-others : goal.returns-clause-others
returns-clause-others g c d apart = get_or-set_other c.args.dies.now.items c.args.die d c.pass.new.self no_rounds apart

pub returns-clause-opened : goal.returns-clause-opened
returns-clause-opened g c =
    one_opened c.args.dies.now.items c.args.die c.index_mut.result.now c.pass.new.self c.args.round
    (omega (arith, c.requires.long, c.requires.within)) c.index_mut.ensures.value c.pass.ensures.opened c.pass.ensures.window

pub returns-clause-window : goal.returns-clause-window
returns-clause-window g c =
    one_window c.args.dies.now.items c.args.die c.index_mut.result.now c.pass.new.self c.args.round
    (omega (arith, c.requires.long, c.requires.within)) c.index_mut.ensures.value c.pass.ensures.opened c.pass.ensures.window
