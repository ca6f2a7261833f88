use Rattle.std.proofs.Common.{refl}
use Rattle.fa_lanes.proofs.WideLanes.{double_low, double_twice}
use Rattle.fa_lanes.proofs.wide_words.double.Goals as goal

pub returns-clause-low : goal.returns-clause-low
returns-clause-low c = double_low _ _ _ c.args.a _ _ c.fits-a.0 (λ x. refl)

pub returns-clause-twice : goal.returns-clause-twice
returns-clause-twice c = double_twice _ _ _ c.args.a _ _ c.fits-a.0 (λ x. refl)
