use Rattle.std.proofs.Common.{◌*◌, ◌≡◌, length}
use Rattle.fa_image.specs.Image.{slot_bytes}
use Rattle.fa_mount_scan.specs.ContentReading.{EachOnlyRead, AreOutcomes}
use Rattle.fa_mount_scan.proofs.ByDie.{AreUntouched}
use Rattle.fa_mount_scan.proofs.slots.dies.read_dies.Given as goal

abbrev pub invariant-loop-die : goal.invariant-loop-die
invariant-loop-die g l = record {
  buffer : length l.buffer.items ≡ 8 * slot_bytes l.geometry;
  long : length l.outcomes.items ≡ l.die;
  outcomes : AreOutcomes g.I.Image.made l.geometry l.fn.images l.images l.standings l.outcomes.items;
  untouched : AreUntouched l.standings l.fn.images l.images l.die;
  only_read : EachOnlyRead g.I.Image.view l.fn.images l.images;
}
