use Rattle.fa_lanes.proofs.Majority.{majority}
use Rattle.fa_lanes.proofs.alone.maj.Goals as goal

pub returns : goal.returns
returns c = majority c.args.x c.args.y c.args.z
