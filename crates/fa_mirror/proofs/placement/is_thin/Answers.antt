use Rattle.fa_mirror.proofs.Past.{not_thin}
use Rattle.fa_mirror.proofs.placement.is_thin.Goals as goal
use Rattle.fa_types.specs.declared.geometry.Geometry.{Geometry}
use Rattle.std.proofs.Common.{subst, sym, ◌≤◌}

pub returns-then-page-geometry : goal.returns-then-page-geometry
returns-then-page-geometry g c =
    sym (not_thin (g.M.Map.view c.args.map.now) (g.met.M.Map.whole c.args.map.now) c.args.page.0
    (subst (λ (k : Geometry). k.pages ≤ c.args.page.0) c.geometry.ensures c.if-page-geometry.true) c.args.copies.number)
