use Rattle.fa_nego.proofs.StageLaws.{starts}
use Rattle.fa_nego.proofs.laws.starts.Goals as goal

pub returns : goal.returns
returns c = starts
