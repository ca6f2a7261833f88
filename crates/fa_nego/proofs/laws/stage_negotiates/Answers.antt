use Rattle.fa_nego.proofs.StageLaws.{stage_negotiates}
use Rattle.fa_nego.proofs.laws.stage_negotiates.Goals as goal

pub returns : goal.returns
returns c = stage_negotiates
