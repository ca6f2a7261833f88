use Rattle.std.proofs.Common.{mod-lt, pow_pos, slice_index}
use Rattle.fa_lanes.specs.Wide.{low}
use Rattle.fa_lanes.proofs.Majority.{choice}
use Rattle.fa_lanes.proofs.wide_words.ch.Goals as goal

pub returns : goal.returns
returns c = record {
  size = c.xor-2.ensures.size;
  each = λ l lt.
      rw (c.xor-2.ensures.each l lt, c.and.ensures.each l lt, c.xor.ensures.each l lt)
      (choice (low c.args.x l) (low c.args.y l) (low c.args.z l) (mod-lt (slice_index c.args.x l) (pow_pos 32)) (mod-lt (slice_index c.args.y l) (pow_pos 32))
      (mod-lt (slice_index c.args.z l) (pow_pos 32)));
}
