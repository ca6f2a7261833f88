use Rattle.fa_cmds.proofs.Spelling.{one_request}
use Rattle.fa_cmds.proofs.laws.one_request.Goals as goal

pub returns : goal.returns
returns c = one_request
