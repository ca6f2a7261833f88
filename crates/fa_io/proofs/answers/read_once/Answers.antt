use Rattle.std.proofs.Common.{◌<◌, length, arith}
use Rattle.fa_io.proofs.OneCall.{ReadsOnce-meaning}
use Rattle.fa_io.proofs.answers.read_once.Goals as goal

pub returns : goal.returns
returns g c =
    let room : 0 < length c.read.new.buf = omega arith in
    rw c.read_meaning.ensures (ReadsOnce-meaning _ _ _ c.read.result room c.read.ensures.bound c.read.ensures.bytes)
