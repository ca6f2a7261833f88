use Rattle.std.proofs.Common.{slice_index}
use Rattle.fa_lanes.proofs.Majority.{majority}
use Rattle.fa_lanes.proofs.words.maj.Goals as goal

pub returns : goal.returns
returns c = record {
  size = c.xor-3.ensures.size;
  each = λ l lt.
      rw (c.xor-3.ensures.each l lt, c.and.ensures.each l lt, c.xor.ensures.each l lt, c.xor-2.ensures.each l lt)
      (majority (slice_index c.args.x l) (slice_index c.args.y l) (slice_index c.args.z l));
}
