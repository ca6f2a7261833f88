use Rattle.std.proofs.Common.{refl, sym}
use Rattle.sha2.proofs.Schedule256.{rounds_first}
use Rattle.fa_lanes.proofs.WideLanes.{wide_lane_at}
use Rattle.fa_lanes.specs.Wide.{wide_lane}
use Rattle.fa_lanes.proofs.wide_rounds.first_step.Goals as goal

pub returns-clause-lanes : goal.returns-clause-lanes
returns-clause-lanes c = λ b h l lt twice window held.
    rounds_first b h (wide_lane c.args.w.now l) (wide_lane c.args.v l) c.args.t _ _ _ c.requires window held refl
    (sym (wide_lane_at c.args.w.now c.args.t l)) (c.round.ensures.lanes twice l lt)
