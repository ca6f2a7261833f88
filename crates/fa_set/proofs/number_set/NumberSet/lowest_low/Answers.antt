use Rattle.std.proofs.Common.{◌*◌, length, None, Some, refl, ap, subst, arith}
use Rattle.fa_set.specs.Words.{IsLowestInWord}
use Rattle.fa_set.proofs.Lowest.{left_fits, lowest_here, lowest_none, lowest_there}
use Rattle.fa_set.proofs.number_set.NumberSet.lowest_low.Goals as goal

pub returns-in-Some : goal.returns-in-Some
returns-in-Some g c =
    let s = c.args.self.now in
    lowest_here s.low.items c.args.from c.in-Some.number (subst (λ l. IsLowestInWord l c.args.from (Some c.in-Some.number)) c.deref.ensures.value c.in-Some.ensures)

pub overflow_mul-word : goal.overflow_mul-word
overflow_mul-word g c =
    let s = c.args.self.now in
    let w = c.in-Some-lowest_middle in
    let fits = left_fits s.low.items s.middle.items w.word s.sound.middle_above (w.ensures.some w.word refl).1 in
    omega (arith, fits, s.sound.low_words, s.low.ok.0)

pub lowest_in_word-requires-in-Some-lowest_middle : goal.lowest_in_word-requires-in-Some-lowest_middle
lowest_in_word-requires-in-Some-lowest_middle g c =
    let s = c.args.self.now in
    let w = c.in-Some-lowest_middle in
    let fits = left_fits s.low.items s.middle.items w.word s.sound.middle_above (w.ensures.some w.word refl).1 in
    let long = ap length c.deref-in-Some-lowest_middle.ensures.value in
    omega (arith, fits, long)

pub returns-in-Some-lowest_middle : goal.returns-in-Some-lowest_middle
returns-in-Some-lowest_middle g c =
    let s = c.args.self.now in
    let w = c.in-Some-lowest_middle in
    lowest_there s.low.items s.middle.items s.sound.middle_above c.args.from (subst (λ l. IsLowestInWord l c.args.from None) c.deref.ensures.value c.in_default.ensures)
    w.word (w.word * 64) c.lowest_in_word-in-Some-lowest_middle.result w.ensures refl
    (subst (λ l. IsLowestInWord l (w.word * 64) c.lowest_in_word-in-Some-lowest_middle.result) c.deref-in-Some-lowest_middle.ensures.value c.lowest_in_word-in-Some-lowest_middle.ensures)

pub returns-in-None : goal.returns-in-None
returns-in-None g c =
    let s = c.args.self.now in
    lowest_none s.low.items s.middle.items s.sound.middle_above c.args.from (subst (λ l. IsLowestInWord l c.args.from None) c.deref.ensures.value c.in_default.ensures) c.in-None.ensures
