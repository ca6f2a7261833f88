use Rattle.std.proofs.Common.{◌+◌, ◌*◌, length}
use Rattle.std.specs.Prelude.{max}
use Rattle.fa_mount_scan.proofs.slots.side_by_side.+reads.Given as goal

abbrev pub decreases-read_side_by_side-one : goal.decreases-read_side_by_side-one
decreases-read_side_by_side-one g l = 3 * length l.front.now + 1

abbrev pub decreases-read_side_by_side-other : goal.decreases-read_side_by_side-other
decreases-read_side_by_side-other g l = 3 * length l.back.now + 1

abbrev pub decreases-read_images : goal.decreases-read_images
decreases-read_images g l = 3 * length l.images.now

abbrev pub decreases-read_side_by_side : goal.decreases-read_side_by_side
decreases-read_side_by_side g l = 3 * max (length l.front.now) (length l.back.now) + 2
