use Rattle.std.proofs.Common.{◌*◌, length, None, Some, refl, ap, subst, arith}
use Rattle.fa_set.specs.Words.{IsLowestInWord}
use Rattle.fa_set.proofs.Lowest.{left_fits, lowest_here, lowest_none, lowest_there}
use Rattle.fa_set.proofs.number_set.NumberSet.lowest_middle.Goals as goal

pub returns-in-Some : goal.returns-in-Some
returns-in-Some g c =
    let s = c.args.self.now in
    lowest_here s.middle.items c.args.from c.in-Some.number (subst (λ l. IsLowestInWord l c.args.from (Some c.in-Some.number)) c.deref.ensures.value c.in-Some.ensures)

pub overflow_mul-word : goal.overflow_mul-word
overflow_mul-word g c =
    let s = c.args.self.now in
    let w = c.in-Some-lowest_high in
    let fits = left_fits s.middle.items s.high.items w.word s.sound.high_above (w.ensures.some w.word refl).1 in
    omega (arith, fits, s.sound.middle_words, s.middle.ok.0)

pub lowest_in_word-requires-in-Some-lowest_high : goal.lowest_in_word-requires-in-Some-lowest_high
lowest_in_word-requires-in-Some-lowest_high g c =
    let s = c.args.self.now in
    let w = c.in-Some-lowest_high in
    let fits = left_fits s.middle.items s.high.items w.word s.sound.high_above (w.ensures.some w.word refl).1 in
    let long = ap length c.deref-in-Some-lowest_high.ensures.value in
    omega (arith, fits, long)

pub returns-in-Some-lowest_high : goal.returns-in-Some-lowest_high
returns-in-Some-lowest_high g c =
    let s = c.args.self.now in
    let w = c.in-Some-lowest_high in
    lowest_there s.middle.items s.high.items s.sound.high_above c.args.from (subst (λ l. IsLowestInWord l c.args.from None) c.deref.ensures.value c.in_default.ensures)
    w.word (w.word * 64) c.lowest_in_word-in-Some-lowest_high.result w.ensures refl
    (subst (λ l. IsLowestInWord l (w.word * 64) c.lowest_in_word-in-Some-lowest_high.result) c.deref-in-Some-lowest_high.ensures.value c.lowest_in_word-in-Some-lowest_high.ensures)

pub returns-in-None : goal.returns-in-None
returns-in-None g c =
    let s = c.args.self.now in
    lowest_none s.middle.items s.high.items s.sound.high_above c.args.from (subst (λ l. IsLowestInWord l c.args.from None) c.deref.ensures.value c.in_default.ensures) c.in-None.ensures
