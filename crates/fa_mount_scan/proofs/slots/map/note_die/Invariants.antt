use Rattle.std.proofs.Common.{◌≡◌, length}
use Rattle.fa_mount_scan.specs.ContentMerging.{AreLastBefore}
use Rattle.fa_mount_scan.proofs.slots.map.note_die.Given as goal

abbrev pub invariant-loop-slot : goal.invariant-loop-slot
invariant-loop-slot g l = record {
  long : length l.last.items ≡ length l.fn.last.items;
  last : AreLastBefore l.contents l.die l.slot l.last.items;
}
