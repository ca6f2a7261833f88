use Rattle.std.proofs.Common.{bit_and}
use Rattle.std.proofs.lemmas.Nat.{and_mod}
use Rattle.fa_lanes.proofs.WideLanes.{in_low}
use Rattle.fa_lanes.proofs.wide_words.and.Goals as goal

pub returns : goal.returns
returns c = in_low bit_and bit_and c.args.a c.args.b c.fits-a.0 c.fits-b.0 (λ x y. and_mod x y 32)
