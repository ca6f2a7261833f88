use Rattle.std.proofs.Common.{bit_xor}
use Rattle.std.proofs.lemmas.Nat.{xor_mod}
use Rattle.fa_lanes.proofs.WideLanes.{in_low}
use Rattle.fa_lanes.proofs.wide_words.xor.Goals as goal

pub returns : goal.returns
returns c = in_low bit_xor bit_xor c.args.a c.args.b c.fits-a.0 c.fits-b.0 (λ x y. xor_mod x y 32)
