use Rattle.std.proofs.Common.{◌≡◌, ◌++◌, map}
use Rattle.std.specs.Fmt.{decimal}
use Rattle.fa_texts.specs.Numbers.{IsRisingUpTo}
use Rattle.fa_texts.specs.Text.{words_left}
use Rattle.fa_texts.proofs.Cuts.{left_len}
use Rattle.fa_texts.proofs.words.rising_numbers.Given as goal

abbrev pub invariant-loop-rest : goal.invariant-loop-rest
invariant-loop-rest g l = IsRisingUpTo l.max l.numbers.items × (words_left l.fn.line ≡ map decimal l.numbers.items ++ words_left l.rest)

abbrev pub decreases-loop-rest : goal.decreases-loop-rest
decreases-loop-rest g l = left_len l.rest
