use Rattle.std.proofs.Common.{◌≡◌, length}
use Rattle.fa_mount_scan.specs.ContentMerging.{AreLastBefore}
use Rattle.fa_mount_scan.proofs.slots.map.last_writes.Given as goal

abbrev pub invariant-loop-die : goal.invariant-loop-die
invariant-loop-die g l = record {
  long : length l.last.items ≡ l.pages;
  last : AreLastBefore l.contents l.die 0 l.last.items;
}
