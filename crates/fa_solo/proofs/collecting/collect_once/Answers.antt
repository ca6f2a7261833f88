use Rattle.fa_solo.proofs.Windows.{collects_then}
use Rattle.fa_solo_job.proofs.Chains.{does_more}
use Rattle.fa_solo_job.specs.Deeds.{IsForDies}
use Rattle.fa_solo.proofs.collecting.collect_once.Goals as goal

pub returns-clause-does : goal.returns-clause-does
returns-clause-does g c = does_more _ IsForDies _ _ _ c.step_windows-windows.ensures.does c.step_windows.ensures.does

pub returns-clause-collects : goal.returns-clause-collects
returns-clause-collects g c = collects_then _ _ _ _ c.step_windows.result c.step_windows-windows.ensures.does
    (c.is_unwanted.ensures.no c.if-is_unwanted.false) c.step_windows.ensures.steps
