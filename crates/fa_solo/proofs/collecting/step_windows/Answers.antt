use Rattle.fa_solo.proofs.Windows.{steps_behind}
use Rattle.fa_solo_job.proofs.Chains.{does_more}
use Rattle.fa_solo_job.specs.Deeds.{IsForDies}
use Rattle.fa_solo.proofs.collecting.step_windows.Goals as goal

pub returns-clause-does : goal.returns-clause-does
returns-clause-does g c = does_more _ IsForDies _ _ _ c.give_windows-windows.ensures.does c.work_off.ensures

pub returns-clause-steps : goal.returns-clause-steps
returns-clause-steps g c = steps_behind _ _ _ _ c.give_windows-windows.result c.give_windows-windows.ensures.gives c.work_off.ensures
