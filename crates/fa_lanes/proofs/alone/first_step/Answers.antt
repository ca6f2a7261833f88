use Rattle.std.proofs.Common.{refl}
use Rattle.sha2.proofs.Schedule256.{rounds_first}
use Rattle.fa_lanes.proofs.alone.first_step.Goals as goal

pub returns : goal.returns
returns c = λ b h window held.
    rounds_first b h c.args.w.now c.args.v c.args.t _ _ _ c.requires window held refl refl c.round.ensures
