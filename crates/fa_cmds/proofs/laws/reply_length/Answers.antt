use Rattle.fa_cmds.proofs.Spelling.{length-reply_bytes}
use Rattle.fa_cmds.proofs.laws.reply_length.Goals as goal

pub returns : goal.returns
returns c = length-reply_bytes
