use Rattle.std.proofs.Common.{refl}
use Rattle.fa_solo_job.proofs.Chains.{does_window}
use Rattle.fa_solo.proofs.Windows.{gives_window, may_ask}
use Rattle.fa_solo.proofs.collecting.ask_window.Goals as goal

pub returns-clause-does : goal.returns-clause-does
returns-clause-does g c = does_window _ _ c.args.inner.now _ c.args.die.0 c.rounds_of-rounds.result c.window.result c.window.ensures.some
    c.window.ensures.none c.window.ensures.rest refl refl c.requires.wanted

pub returns-clause-gives : goal.returns-clause-gives
returns-clause-gives g c = gives_window _ c.args.inner.now _ c.args.die.0 c.rounds_of-rounds.result c.in-Some.answer c.windows_of.result
    c.requires.wanted (record { step = c.in-Some.ensures.some; left = c.window.ensures.rest; images = refl; dies = refl }) c.windows_of.ensures

pub unreachable-requires : goal.unreachable-requires
unreachable-requires g c =
    may_ask _ c.rounds_of-rounds.result c.requires.die c.rounds_of-rounds.ensures.some c.rounds_of-rounds.ensures.most c.in-None.ensures.none.0
