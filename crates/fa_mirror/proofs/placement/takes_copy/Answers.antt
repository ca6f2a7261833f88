use Rattle.fa_machine.specs.Copies.{holds_page}
use Rattle.fa_machine.specs.Placement.{has_room}
use Rattle.fa_mirror.proofs.Past.{not_held}
use Rattle.fa_mirror.proofs.placement.takes_copy.Goals as goal
use Rattle.fa_types.specs.declared.geometry.Geometry.{Geometry}
use Rattle.std.proofs.Common.{ap, not, subst, sym, ◌∙◌, ◌≤◌}
use Rattle.std.proofs.lemmas.Bool.{and_from, le-leb}

pub returns-then-page-geometry : goal.returns-then-page-geometry
returns-then-page-geometry g c =
    let m = g.M.Map.view c.args.map.now in
    let past = subst (λ (k : Geometry). k.pages ≤ c.args.page.0) c.geometry.ensures c.if-page-geometry.true in
    le-leb c.geometry.result.pages c.args.page.0 c.if-page-geometry.true
    ∙ sym (and_from (has_room m c.args.die.0) (not (holds_page m c.args.page.0 c.args.die.0)) (sym c.has_room.ensures ∙ c.if-has_room.true)
    (ap not (not_held m (g.met.M.Map.whole c.args.map.now) c.args.page.0 past c.args.die.0)))
