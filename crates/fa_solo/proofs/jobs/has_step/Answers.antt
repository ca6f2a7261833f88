use Rattle.std.proofs.Common.{sym, ◌∙◌}
use Rattle.fa_solo.proofs.Awaited.{victim_some}
use Rattle.fa_solo_job.specs.Deeds.{ForStep}
use Rattle.fa_solo.proofs.jobs.has_step.Goals as goal

pub returns : goal.returns
returns g c = λ is.
    ForStep c.args.die.0 (sym c.is_live.ensures ∙ c.if-not-is_live.false) (sym c.has_window.ensures ∙ c.if-not-has_window.false)
    (victim_some c.victim.result _ c.victim.ensures (sym c.is_some.ensures ∙ is))
