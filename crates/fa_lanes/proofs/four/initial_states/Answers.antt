use Rattle.std.proofs.Common.{refl}
use Rattle.fa_lanes.proofs.WideLanes.{eight_twice}
use Rattle.fa_lanes.proofs.four.initial_states.Goals as goal

pub returns-clause-lanes : goal.returns-clause-lanes
returns-clause-lanes c = λ l lt. rw (
  c.splat_twice.ensures.low.each l lt,
  c.splat_twice-2.ensures.low.each l lt,
  c.splat_twice-3.ensures.low.each l lt,
  c.splat_twice-4.ensures.low.each l lt,
  c.splat_twice-5.ensures.low.each l lt,
  c.splat_twice-6.ensures.low.each l lt,
  c.splat_twice-7.ensures.low.each l lt,
  c.splat_twice-8.ensures.low.each l lt,
) refl

pub returns-clause-twice : goal.returns-clause-twice
returns-clause-twice c = eight_twice _ _ _ _ _ _ _ _ c.splat_twice.ensures.twice c.splat_twice-2.ensures.twice c.splat_twice-3.ensures.twice
    c.splat_twice-4.ensures.twice c.splat_twice-5.ensures.twice c.splat_twice-6.ensures.twice c.splat_twice-7.ensures.twice c.splat_twice-8.ensures.twice
