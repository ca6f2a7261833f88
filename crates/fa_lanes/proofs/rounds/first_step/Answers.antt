use Rattle.std.proofs.Common.{refl, sym}
use Rattle.sha2.proofs.Schedule256.{rounds_first}
use Rattle.fa_lanes.proofs.InLanes.{lane_at}
use Rattle.fa_lanes.specs.Lanes.{lane}
use Rattle.fa_lanes.proofs.rounds.first_step.Goals as goal

pub returns : goal.returns
returns c = λ b h l lt window held.
    rounds_first b h (lane c.args.w.now l) (lane c.args.v l) c.args.t _ _ _ c.requires window held refl (sym (lane_at c.args.w.now c.args.t l)) (c.round.ensures l lt)
