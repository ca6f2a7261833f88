use Rattle.std.proofs.Common.{[], ◌∷◌, refl}
use Rattle.fa_machine.specs.Step.{Admit}
use Rattle.fa_core_calls.specs.Answers.{admit_answer}
use Rattle.fa_workers.specs.Rebuilding.{Moved}
use Rattle.fa_workers.proofs.rebuild_events.ask.Goals as goal

pub returns-in-Some-clause-rebuilds : goal.returns-in-Some-clause-rebuilds
returns-in-Some-clause-rebuilds g c =
    Moved (Admit (c.args.thin.page.0 ∷ []) (admit_answer c.in-Some.answer)) c.in-Some.ensures.some
    (c.requires.goes_on, c.args.thin, c.requires.number, refl, c.asked.ensures)
