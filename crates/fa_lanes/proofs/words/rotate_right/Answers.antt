use Rattle.std.proofs.Common.{◌≡◌, ◌-◌, ◌%◌, arith}
use Rattle.fa_lanes.proofs.InLanes.{with_both}
use Rattle.fa_lanes.proofs.words.rotate_right.Goals as goal

pub returns : goal.returns
returns c =
    let right : c.args.by % 32 ≡ c.args.by = omega arith in
    let left : (32 - c.args.by) % 32 ≡ 32 - c.args.by = omega arith in
    rw (right, left) (with_both _ _ _ c.args.a c.args.by (32 - c.args.by) c.fits-a.0)
