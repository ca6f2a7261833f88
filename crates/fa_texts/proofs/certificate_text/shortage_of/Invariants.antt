use Rattle.std.proofs.Common.{◌≡◌, map, take}
use Rattle.fa_texts.proofs.certificate_text.shortage_of.Given as goal

abbrev pub invariant-loop-n : goal.invariant-loop-n
invariant-loop-n g l = map (λ p. p.0) l.shortage ≡ take l.n-index l.numbers
