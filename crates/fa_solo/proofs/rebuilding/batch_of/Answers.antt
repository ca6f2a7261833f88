use Rattle.std.proofs.Common.{ap}
use Rattle.fa_core_calls.specs.Answers.{admit_answer}
use Rattle.fa_solo.proofs.rebuilding.batch_of.Goals as goal

pub returns-in-Ok-clause-some : goal.returns-in-Ok-clause-some
returns-in-Ok-clause-some g c = (_, ap admit_answer c.in-Ok.is)

pub returns-in-Err-clause-none : goal.returns-in-Err-clause-none
returns-in-Err-clause-none g c = (_, ap admit_answer c.in-Err.is)
