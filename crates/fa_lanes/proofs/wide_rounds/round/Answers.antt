use Rattle.std.proofs.Common.{[], arith, refl}
use Rattle.fa_lanes.proofs.WideLanes.{eight_twice, splat_low, wide_lane_at}
use Rattle.fa_lanes.proofs.wide_rounds.round.Goals as goal

pub returns-clause-lanes : goal.returns-clause-lanes
returns-clause-lanes c = λ twice l lt.
    let v = c.args.v in
    rw (
      wide_lane_at v 0 l,
      wide_lane_at v 1 l,
      wide_lane_at v 2 l,
      wide_lane_at v 3 l,
      wide_lane_at v 4 l,
      wide_lane_at v 5 l,
      wide_lane_at v 6 l,
      wide_lane_at v 7 l,
      c.double.ensures.low.each l lt,
      c.double-2.ensures.low.each l lt,
      c.add-3.ensures.each l lt,
      c.add-4.ensures.each l lt,
      c.add-temp1.ensures.each l lt,
      c.add-temp2.ensures.each l lt,
      c.add-2.ensures.each l lt,
      splat_low c.from.result l (omega (arith, c.from.ensures)) lt,
      c.from.ensures,
      c.add-mixed.ensures.each l lt,
      c.add.ensures.each l lt,
      (c.big_sigma1.ensures (twice 4 [] (omega arith))).each l lt,
      c.ch.ensures.each l lt,
      (c.big_sigma0.ensures (twice 0 [] (omega arith))).each l lt,
      c.maj.ensures.each l lt,
    ) refl

pub returns-clause-twice : goal.returns-clause-twice
returns-clause-twice c = λ twice.
    eight_twice _ _ _ _ _ _ _ _ c.double.ensures.twice (twice 0 [] (omega arith)) (twice 1 [] (omega arith)) (twice 2 [] (omega arith))
    c.double-2.ensures.twice (twice 4 [] (omega arith)) (twice 5 [] (omega arith)) (twice 6 [] (omega arith))
