use Rattle.std.proofs.Common.{◌∙◌, arith}
use Rattle.fa_lanes.proofs.WideLanes.{splat_low}
use Rattle.fa_lanes.proofs.four.splat_twice.Goals as goal

pub returns-clause-low : goal.returns-clause-low
returns-clause-low c = record {
  size = c.double.ensures.low.size;
  each = λ l lt. c.double.ensures.low.each l lt ∙ splat_low c.from.result l (omega (arith, c.from.ensures)) lt ∙ c.from.ensures;
}
