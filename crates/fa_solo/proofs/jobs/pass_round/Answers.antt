use Rattle.std.proofs.Common.{refl, sym, ◌∙◌}
use Rattle.fa_solo.proofs.Awaited.{stuck_behind}
use Rattle.fa_solo_job.proofs.Chains.{does_event}
use Rattle.fa_machine.specs.Step.{Advance}
use Rattle.fa_solo_job.specs.Deeds.{IsForDies}
use Rattle.fa_solo.proofs.jobs.pass_round.Goals as goal

pub returns-clause-does : goal.returns-clause-does
returns-clause-does g c = does_event _ IsForDies _ _ (Advance c.advance.result) tt c.requires c.advance.ensures.event c.advance.ensures.rest refl refl

pub returns-clause-stuck : goal.returns-clause-stuck
returns-clause-stuck g c = λ not. stuck_behind _ _ c.advance.result c.advance.ensures.event (sym c.is_ok.ensures.value ∙ not)
