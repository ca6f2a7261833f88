use Rattle.std.proofs.Common.{◌≡◌, ◌≤◌, map, string_bytes, length}
use Rattle.fa_prog_images.specs.Table.{AreRowsFrom}
use Rattle.fa_prog_images.proofs.table.rows_of.Given as goal

abbrev pub invariant-loop-die : goal.invariant-loop-die
invariant-loop-die g l = record {
  end : l.die-end ≡ (g.M.Map.view l.mounted.map).geometry.dies;
  order : l.die ≤ l.die-end;
  long : length l.rows.items ≡ l.die;
  each : AreRowsFrom (map string_bytes l.paths) l.places l.founds l.mounted.dies.items (g.M.Map.view l.mounted.map) 0 l.rows.items;
}
