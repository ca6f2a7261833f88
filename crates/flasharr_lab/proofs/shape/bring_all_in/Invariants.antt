use Rattle.std.proofs.Common.{◌≡◌, ◌≤◌}
use Rattle.std.specs.FinMap.{len}
use Rattle.flasharr_lab.proofs.shape.bring_all_in.Given as goal

abbrev pub invariant-loop-die : goal.invariant-loop-die
invariant-loop-die g l =
    ((g.M.Map.view l.page_map).geometry ≡ (g.M.Map.view l.initial.page_map).geometry)
    × ((g.M.Map.view l.page_map).versions ≡ (g.M.Map.view l.initial.page_map).versions)
    × (len (g.M.Map.view l.page_map).live ≤ l.die)
