use Rattle.std.proofs.Common.{◌∙◌, ap, map, refl}
use Rattle.fa_machine.specs.Reading.{results}
use Rattle.fa_machine.specs.State.{Core}
use Rattle.fa_machine.specs.Step.{EndBatch}
use Rattle.fa_workers.proofs.Rebuilds.{batch_ended}
use Rattle.fa_workers.specs.Rebuilding.{Moved}
use Rattle.fa_workers.proofs.rebuild_events.read.Goals as goal

pub returns-in-Some-clause-rebuilds : goal.returns-in-Some-clause-rebuilds
returns-in-Some-clause-rebuilds g c =
    let state = c.results-state.ensures ∙ ap (λ (core : Core). results core c.args.batch.0) c.array.ensures.state in
    Moved (EndBatch c.args.batch.0 (map (λ e. (e.0.0, e.1.items)) c.in-Some.answers.items)) c.in-Some.ensures.some
    (refl, batch_ended c.args.thin _ c.is_stopping-stops.ensures state c.comes_to-in-Some.ensures c.after_batch.ensures)
