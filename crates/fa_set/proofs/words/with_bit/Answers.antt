use Rattle.std.proofs.Common.{w64}
use Rattle.std.proofs.lemmas.Nat.Bits.{bit_at_set_same, bit_at_set_other}
use Rattle.fa_set.proofs.words.with_bit.Goals as goal

pub returns-clause-set : goal.returns-clause-set
returns-clause-set c = bit_at_set_same w64 _ _ c.requires

pub returns-clause-others : goal.returns-clause-others
returns-clause-others c = bit_at_set_other w64 _ _ c.requires
