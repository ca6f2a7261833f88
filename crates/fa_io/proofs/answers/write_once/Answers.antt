use Rattle.fa_io.proofs.OneCall.{WritesOnce-meaning}
use Rattle.fa_io.proofs.answers.write_once.Goals as goal

pub returns : goal.returns
returns g c = rw c.write_meaning.ensures (WritesOnce-meaning _ _ _ c.write.result c.write.ensures.bound c.write.ensures.bytes)
