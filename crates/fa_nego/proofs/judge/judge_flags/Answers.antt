use Rattle.std.proofs.Common.{◌≡◌, arith}
use Rattle.byteorder.specs.Endian.{big_number}
use Rattle.fa_nego.proofs.Stages.{flags_refused}
use Rattle.fa_nego.proofs.judge.judge_flags.Goals as goal

pub returns-else-flags-lt4 : goal.returns-else-flags-lt4
returns-else-flags-lt4 c export size heard said at =
    let flags : c.read_u32-flags.result ≡ big_number 4 c.args.held.now = c.read_u32-flags.ensures in
    flags_refused export size c.args.held.now heard said (λ i. omega (arith, c.type_inv.held i)) (omega arith) (omega (arith, flags)) (omega (arith, flags)) at
