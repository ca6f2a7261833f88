use Rattle.std.proofs.Common.{◌≡◌, ◌≤◌}
use Rattle.fa_shared.specs.Spares.{live_below}
use Rattle.fa_shared.proofs.spares.count_live.Given as goal

abbrev pub invariant-loop-die : goal.invariant-loop-die
invariant-loop-die g l = record {
  count : l.live ≡ live_below (g.E.Looks.core l.array).page_map l.die;
  most : l.live ≤ l.die;
}
