use Rattle.std.proofs.Common.{◌≡◌, ◌*◌, arith}
use Rattle.std.specs.Int.{bit_at}
use Rattle.std.specs.Int.Bits.{bit_and}
use Rattle.std.proofs.lemmas.Nat.Bits.{and_high, bit_at-lt}
use Rattle.std.proofs.lemmas.Bool.Decides.{nat_tests}
use Rattle.fa_cmds.proofs.request.Request.is_no_hole.Goals as goal

pub returns : goal.returns
returns c =
    let flags = c.args.self.flags in
    let high : bit_and flags 2 ≡ bit_at flags 1 * 2 = and_high flags 1 1 in
    let small = bit_at-lt flags 1 in
    grind (arith, nat_tests)
