use Rattle.fa_lanes.proofs.InLanes.{with_one}
use Rattle.fa_lanes.proofs.words.shift_right.Goals as goal

pub returns : goal.returns
returns c = with_one _ c.args.a c.args.by c.fits-a.0
