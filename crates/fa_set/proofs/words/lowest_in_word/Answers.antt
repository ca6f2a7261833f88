use Rattle.std.proofs.Common.{refl, arith}
use Rattle.fa_set.proofs.Lowest.{word_found}
use Rattle.fa_set.proofs.words.lowest_in_word.Goals as goal

pub overflow_add-result : goal.overflow_add-result
overflow_add-result c =
    let found = c.in-Some.ensures.some c.in-Some.bit refl in
    omega (arith, found.1, c.ranges.from.fits)

pub returns-in-Some : goal.returns-in-Some
returns-in-Some c = word_found c.args.words.now c.args.from c.in-Some.bit (c.in-Some.ensures.some c.in-Some.bit refl)
