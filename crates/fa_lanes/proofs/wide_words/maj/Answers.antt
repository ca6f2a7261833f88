use Rattle.fa_lanes.specs.Wide.{low}
use Rattle.fa_lanes.proofs.Majority.{majority}
use Rattle.fa_lanes.proofs.wide_words.maj.Goals as goal

pub returns : goal.returns
returns c = record {
  size = c.xor-3.ensures.size;
  each = λ l lt.
      rw (c.xor-3.ensures.each l lt, c.and.ensures.each l lt, c.xor.ensures.each l lt, c.xor-2.ensures.each l lt)
      (majority (low c.args.x l) (low c.args.y l) (low c.args.z l));
}
