use Rattle.fa_nego.proofs.OneAnswer.{one_answer}
use Rattle.fa_nego.proofs.laws.one_answer.Goals as goal

pub returns : goal.returns
returns c = one_answer
