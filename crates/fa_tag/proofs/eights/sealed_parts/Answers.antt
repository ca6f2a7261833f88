use Rattle.std.proofs.Common.{refl}
use Rattle.fa_lanes.proofs.Loading.{each_lane}
use Rattle.fa_tag.proofs.eights.sealed_parts.Goals as goal

pub returns-clause-parts : goal.returns-clause-parts
returns-clause-parts c = each_lane _ refl refl refl refl refl refl refl refl
