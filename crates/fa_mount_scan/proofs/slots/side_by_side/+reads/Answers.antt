use Rattle.std.proofs.Common.{◌∙◌, arith, sym}
use Rattle.fa_mount_scan.proofs.SideBySide.{as_many_ready, halves_read, halves_ready}
use Rattle.fa_mount_scan.proofs.slots.side_by_side.+reads.Goals as goal

-- src/readings.rt:48:25
pub read_images-split_at_mut-first-requires : goal.read_images-split_at_mut-first-requires
read_images-split_at_mut-first-requires g t c =
    let same = as_many_ready g.I.Image.view c.args.geometry c.args.images.now c.args.readings.now c.requires.ready in
    omega (arith, same)

-- src/readings.rt:49:5
pub read_images-read_side_by_side-requires-clause-front :
    goal.read_images-read_side_by_side-requires-clause-front
read_images-read_side_by_side-requires-clause-front g t c κs within =
    (halves_ready g.I.Image.view c.args.geometry _ _ _ _ _ _ c.split_at_mut-front.ensures.value c.split_at_mut-first.ensures.value
    (c.split_at_mut-front.ensures.front_len ∙ sym c.split_at_mut-first.ensures.front_len) c.requires.ready).0

-- src/readings.rt:49:5
pub read_images-read_side_by_side-requires-clause-back :
    goal.read_images-read_side_by_side-requires-clause-back
read_images-read_side_by_side-requires-clause-back g t c κs within =
    (halves_ready g.I.Image.view c.args.geometry _ _ _ _ _ _ c.split_at_mut-front.ensures.value c.split_at_mut-first.ensures.value
    (c.split_at_mut-front.ensures.front_len ∙ sym c.split_at_mut-first.ensures.front_len) c.requires.ready).1

-- src/readings.rt:29:1
pub read_images-returns : goal.read_images-returns
read_images-returns g t c =
    halves_read g.I.Image.made c.args.geometry _ _ _ _ _ _ _ _ _ _ c.split_at_mut-front.ensures.value c.split_at_mut-first.ensures.value
    c.read_side_by_side.ensures.front c.read_side_by_side.ensures.back
