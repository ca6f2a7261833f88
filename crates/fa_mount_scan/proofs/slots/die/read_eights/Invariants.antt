use Rattle.std.proofs.Common.{◌≡◌, ◌*◌, length, take}
use Rattle.fa_mount_scan.specs.ContentReading.{ReadsSlots}
use Rattle.fa_mount_scan.proofs.slots.die.read_eights.Given as goal

abbrev pub invariant-eights : goal.invariant-eights
invariant-eights g l = record {
  geometry : (g.I.Image.view l.image).geometry ≡ (g.I.Image.view l.fn.image).geometry;
  contents : length l.contents ≡ length l.fn.contents;
  read : ReadsSlots g.I.Image.made l.pages l.die.0 0 (take (8 * l.i) l.contents) l.fn.image l.image;
}
