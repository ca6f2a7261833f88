use Rattle.fa_mount_scan.proofs.Filling.{AreMounted}
use Rattle.fa_mount_scan.proofs.slots.map.mount_content.Given as goal

abbrev pub invariant-loop-die : goal.invariant-loop-die
invariant-loop-die g l = AreMounted (g.M.Map.view l.fn.map).geometry l.contents l.last.items l.die (g.M.Map.view l.map)
