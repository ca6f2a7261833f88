use Rattle.fa_core_complete.proofs.Moved.{outside}
use Rattle.fa_core_complete.proofs.collecting.erase.Goals as goal
use Rattle.fa_types.specs.declared.geometry.Geometry.{Geometry}
use Rattle.std.proofs.Common.{ap, subst, ◌≤◌}

pub returns-else-block-geometry : goal.returns-else-block-geometry
returns-else-block-geometry g c =
    outside (g.M.Map.view c.args.page_map.now) (g.met.M.Map.whole c.args.page_map.now) c.args.die.0 c.args.block.0
    (subst (λ n. n ≤ c.args.block.0) (ap (λ (k : Geometry). k.blocks) c.geometry.ensures) c.if-block-geometry.false)
