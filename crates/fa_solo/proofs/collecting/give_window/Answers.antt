use Rattle.std.proofs.Common.{refl}
use Rattle.fa_solo_job.proofs.Chains.{does_none}
use Rattle.fa_solo.proofs.Windows.{gives_any}
use Rattle.fa_solo.specs.Collecting.{WantsNone}
use Rattle.fa_solo_job.specs.Deeds.{IsForDies}
use Rattle.fa_solo.proofs.collecting.give_window.Goals as goal

pub returns-then-not-is_wanted-clause-does : goal.returns-then-not-is_wanted-clause-does
returns-then-not-is_wanted-clause-does g c = does_none _ IsForDies _

pub returns-then-not-is_wanted-clause-gives : goal.returns-then-not-is_wanted-clause-gives
returns-then-not-is_wanted-clause-gives g c = (refl, c.is_wanted.ensures.unwanted c.if-not-is_wanted.true)

pub ask_window-requires : goal.ask_window-requires
ask_window-requires g c =
    record { die = c.is_wanted.ensures.die c.if-not-is_wanted.false; wanted = c.is_wanted.ensures.wanted c.if-not-is_wanted.false }

pub returns-clause-gives : goal.returns-clause-gives
returns-clause-gives g c = gives_any _ (WantsNone c.args.for_room c.args.die.0) _ _ c.ask_window.result c.ask_window.ensures.gives
