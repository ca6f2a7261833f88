use Rattle.std.proofs.Common.{◌∙◌, refl, sym}
use Rattle.fa_machine.specs.Step.{ReserveCopy}
use Rattle.fa_workers.specs.Rebuilding.{Moved}
use Rattle.fa_workers.proofs.rebuild_events.reserve.Goals as goal

pub returns-in-Some-clause-rebuilds : goal.returns-in-Some-clause-rebuilds
returns-in-Some-clause-rebuilds g c =
    Moved (ReserveCopy c.args.thin.page.0 c.args.thin.seq.0 c.args.payload c.in-Some.answer) c.in-Some.ensures.some
    (sym c.is_stopping.ensures ∙ c.if-is_stopping.false, refl, refl, refl, c.reserved.ensures)
