use Rattle.std.proofs.Common.{refl}
use Rattle.fa_lanes.proofs.wide_words.big_sigma1.Goals as goal

pub returns : goal.returns
returns c = λ twice. record {
  size = c.xor-2.ensures.size;
  each = λ l lt.
      rw (
        c.xor-2.ensures.each l lt,
        c.xor.ensures.each l lt,
        (c.rotate_right.ensures twice).each l lt,
        (c.rotate_right-2.ensures twice).each l lt,
        (c.rotate_right-3.ensures twice).each l lt,
      ) refl;
}
