use Rattle.fa_machine.specs.Maps.{Numbers}
use Rattle.fa_types.specs.declared.geometry.Geometry.{Geometry}
use Rattle.flasharr_lab.proofs.Few.{none_apart}
use Rattle.flasharr_lab.specs.Apart.{AreApart}
use Rattle.std.proofs.Common.{ap, arith, subst, sym, ◌∙◌}
use Rattle.std.specs.FinMap.{len, len-empty}
use Rattle.std.specs.Ordering.{nat_cmp}
use Rattle.flasharr_lab.proofs.shape.spares_of.Goals as goal

pub loop-die-init : goal.loop-die-init
loop-die-init g c =
    let m = g.M.Map.view c.args.page_map.now in
    let Apart : Numbers → Type 0 = λ spares. AreApart m spares in
    let none = ap (λ (spares : Numbers). len spares) c.in_ok-spares.ensures.empty ∙ len-empty nat_cmp (Unit {0}) in (
      c.in_ok-spares.ensures.bound ∙ ap (λ (geometry : Geometry). geometry.dies) c.geometry.ensures,
      subst Apart (sym c.in_ok-spares.ensures.empty) (none_apart m),
      omega (arith, none),
    )
