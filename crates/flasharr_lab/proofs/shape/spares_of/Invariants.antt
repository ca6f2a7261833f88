use Rattle.fa_set.specs.Members.{bound_of, members}
use Rattle.flasharr_lab.specs.Apart.{AreApart}
use Rattle.std.proofs.Common.{◌≡◌, ◌≤◌}
use Rattle.std.specs.FinMap.{len}
use Rattle.flasharr_lab.proofs.shape.spares_of.Given as goal

abbrev pub invariant-loop-die : goal.invariant-loop-die
invariant-loop-die g l =
    (bound_of l.spares ≡ (g.M.Map.view l.page_map).geometry.dies)
    × AreApart (g.M.Map.view l.page_map) (members l.spares)
    × (len (members l.spares) ≤ l.die)
