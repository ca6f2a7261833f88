use Rattle.fa_lanes.proofs.WideLanes.{shifted_twice}
use Rattle.fa_lanes.proofs.wide_words.shift_right.Goals as goal

pub returns : goal.returns
returns c = λ twice. shifted_twice c.args.a c.args.by twice
