use Rattle.std.proofs.Common.{◌≡◌, map, take}
use Rattle.fa_texts.proofs.batch_text.dies_of.Given as goal

abbrev pub invariant-loop-n : goal.invariant-loop-n
invariant-loop-n g l = map (λ d. d.0) l.dies.items ≡ take l.n-index l.numbers
