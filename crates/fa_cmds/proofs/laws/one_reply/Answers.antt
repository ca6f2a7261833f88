use Rattle.fa_cmds.proofs.Spelling.{one_reply}
use Rattle.fa_cmds.proofs.laws.one_reply.Goals as goal

pub returns : goal.returns
returns c = one_reply
