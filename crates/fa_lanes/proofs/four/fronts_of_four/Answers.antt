use Rattle.std.proofs.Common.{refl}
use Rattle.fa_lanes.proofs.WideLanes.{each_wide_lane}
use Rattle.fa_lanes.proofs.four.fronts_of_four.Goals as goal

pub returns-clause-fronts : goal.returns-clause-fronts
returns-clause-fronts c = each_wide_lane _ refl refl refl refl
