use Rattle.std.proofs.Common.{sym, arith}
use Rattle.std.proofs.lemmas.Nat.{shr_le}
use Rattle.std.proofs.lemmas.Option.{same_Some}
use Rattle.fa_set.proofs.Bits.{lowest_is, none_from}
use Rattle.fa_set.proofs.words.lowest_bit.Goals as goal

pub returns-then-rest-eq0-clause-none : goal.returns-then-rest-eq0-clause-none
returns-then-rest-eq0-clause-none c = λ is i low. none_from c.args.word c.args.from c.if-rest-eq0.true i low

pub returns-else-rest-eq0-clause-some : goal.returns-else-rest-eq0-clause-some
returns-else-rest-eq0-clause-some c = λ bit is.
    let less = shr_le c.args.word c.args.from in
    lowest_is c.args.word c.args.from bit c.ranges.word.fits c.if-rest-eq0.false (omega (arith, less, c.ranges.word.fits)) (sym (same_Some _ bit is))
