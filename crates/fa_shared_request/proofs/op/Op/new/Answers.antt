use Rattle.fa_shared_request.proofs.Begun.{begun}
use Rattle.fa_shared_request.proofs.op.Op.new.Goals as goal

pub returns-clause-tally : goal.returns-clause-tally
returns-clause-tally g c = λ commits. begun commits _ _ _ c.task-task.ensures.task c.begin-stage.ensures
