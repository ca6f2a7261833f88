use Rattle.std.proofs.Common.{refl}
use Rattle.fa_lanes.proofs.WideLanes.{eight_twice, wide_lane_at}
use Rattle.fa_lanes.proofs.wide_rounds.add_states.Goals as goal

pub returns-clause-lanes : goal.returns-clause-lanes
returns-clause-lanes c = λ l lt. rw (
  wide_lane_at c.args.state 0 l,
  wide_lane_at c.args.state 1 l,
  wide_lane_at c.args.state 2 l,
  wide_lane_at c.args.state 3 l,
  wide_lane_at c.args.state 4 l,
  wide_lane_at c.args.state 5 l,
  wide_lane_at c.args.state 6 l,
  wide_lane_at c.args.state 7 l,
  wide_lane_at c.args.v 0 l,
  wide_lane_at c.args.v 1 l,
  wide_lane_at c.args.v 2 l,
  wide_lane_at c.args.v 3 l,
  wide_lane_at c.args.v 4 l,
  wide_lane_at c.args.v 5 l,
  wide_lane_at c.args.v 6 l,
  wide_lane_at c.args.v 7 l,
  c.double.ensures.low.each l lt,
  c.double-2.ensures.low.each l lt,
  c.double-3.ensures.low.each l lt,
  c.double-4.ensures.low.each l lt,
  c.double-5.ensures.low.each l lt,
  c.double-6.ensures.low.each l lt,
  c.double-7.ensures.low.each l lt,
  c.double-8.ensures.low.each l lt,
  c.add.ensures.each l lt,
  c.add-2.ensures.each l lt,
  c.add-3.ensures.each l lt,
  c.add-4.ensures.each l lt,
  c.add-5.ensures.each l lt,
  c.add-6.ensures.each l lt,
  c.add-7.ensures.each l lt,
  c.add-8.ensures.each l lt,
) refl

pub returns-clause-twice : goal.returns-clause-twice
returns-clause-twice c = eight_twice _ _ _ _ _ _ _ _ c.double.ensures.twice c.double-2.ensures.twice c.double-3.ensures.twice c.double-4.ensures.twice
    c.double-5.ensures.twice c.double-6.ensures.twice c.double-7.ensures.twice c.double-8.ensures.twice
