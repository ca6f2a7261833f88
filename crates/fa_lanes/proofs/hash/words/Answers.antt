use Rattle.std.proofs.Common.{refl}
use Rattle.fa_lanes.proofs.Loading.{each_lane}
use Rattle.fa_lanes.proofs.hash.words.Goals as goal

pub returns : goal.returns
returns c = record {
  size = refl;
  each = each_lane _ c.word.ensures c.word-2.ensures c.word-3.ensures c.word-4.ensures c.word-5.ensures c.word-6.ensures c.word-7.ensures c.word-8.ensures;
}
