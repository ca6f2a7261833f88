use Rattle.std.proofs.Common.{ap, sym, ◌∙◌}
use Rattle.fa_closed.specs.Runs.{is_covered}
use Rattle.fa_calendar.specs.DieState.{DieState}
use Rattle.fa_calendar.proofs.Totals.{none_covered}
use Rattle.fa_calendar.proofs.die.DieCalendar.is_idle.Goals as goal

pub returns-then-self-eq0-clause-closed : goal.returns-then-self-eq0-clause-closed
returns-then-self-eq0-clause-closed g c is round =
    ap (λ (d : DieState). is_covered d.spans round) (sym c.self.view_is)
    ∙ none_covered c.self.inside.spans.items c.self.invariant.merged (sym c.self.invariant.counted ∙ c.if-self-eq0.true) round
