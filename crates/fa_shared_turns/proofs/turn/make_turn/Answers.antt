use Rattle.std.proofs.Common.{sym}
use Rattle.fa_shared_turns.proofs.Views.{at_view}
use Rattle.fa_shared_turns.proofs.turn.make_turn.Goals as goal

pub returns-clause-turned : goal.returns-clause-turned
returns-clause-turned g c =
    at_view c.task-task.ensures.task c.take_stage-stage.ensures.stage (sym c.put_stage.ensures.stage) c.turn_stage-next.ensures.turned
