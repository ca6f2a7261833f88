use Rattle.fa_lanes.proofs.InLanes.{in_lanes}
use Rattle.fa_lanes.proofs.words.and.Goals as goal

pub returns : goal.returns
returns c = in_lanes _ c.args.a c.args.b c.fits-a.0 c.fits-b.0
