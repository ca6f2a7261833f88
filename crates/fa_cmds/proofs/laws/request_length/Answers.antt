use Rattle.fa_cmds.proofs.Spelling.{length-request_bytes}
use Rattle.fa_cmds.proofs.laws.request_length.Goals as goal

pub returns : goal.returns
returns c = length-request_bytes
