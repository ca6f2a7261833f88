use Rattle.fa_nego.proofs.OneHandshake.{one_handshake}
use Rattle.fa_nego.proofs.laws.one_handshake.Goals as goal

pub returns : goal.returns
returns c = one_handshake
