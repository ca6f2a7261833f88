use Rattle.fa_nego.proofs.StageLaws.{wants_until_over}
use Rattle.fa_nego.proofs.laws.wants_until_over.Goals as goal

pub returns : goal.returns
returns c = wants_until_over
