use Rattle.fa_mount_scan.specs.ContentMerging.{ChangesDie, IsMountedBefore}
use Rattle.fa_mount_scan.proofs.slots.map.mount_die.Given as goal

abbrev pub invariant-loop-slot : goal.invariant-loop-slot
invariant-loop-slot g l = record {
  mounted : IsMountedBefore l.last l.slots l.die.0 l.slot (g.M.Map.view l.map);
  others : ChangesDie l.die.0 (g.M.Map.view l.fn.map) (g.M.Map.view l.map);
}
