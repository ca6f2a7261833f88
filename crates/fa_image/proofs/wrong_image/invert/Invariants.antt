use Rattle.fa_image.specs.Wrong.{inverted}
use Rattle.std.proofs.Common.{◌≡◌, ◌++◌, take, drop}
use Rattle.fa_image.proofs.wrong_image.invert.Given as goal

abbrev pub invariant-loop-byte : goal.invariant-loop-byte
invariant-loop-byte l = l.bytes ≡ inverted (take l.byte-index l.initial.bytes) ++ drop l.byte-index l.initial.bytes
