use Rattle.std.proofs.Common.{◌+◌, ◌%◌, ◌^◌, arith}
use Rattle.fa_lanes.proofs.WideLanes.{in_low}
use Rattle.fa_lanes.proofs.wide_words.add.Goals as goal

pub returns : goal.returns
returns c = in_low (λ x y. (x + y) % 2 ^ 64) (λ x y. (x + y) % 2 ^ 32) c.args.a c.args.b c.fits-a.0 c.fits-b.0 (λ x y. omega arith)
