use Rattle.fa_lanes.proofs.WideLanes.{rotated_twice}
use Rattle.fa_lanes.proofs.wide_words.rotate_right.Goals as goal

pub returns : goal.returns
returns c = λ twice. rotated_twice c.args.a c.args.by twice c.requires.some c.requires.few
