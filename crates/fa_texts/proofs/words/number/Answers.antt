use Rattle.std.proofs.Common.{◌≡◌, ◌+◌, ◌<◌, length, take, get_or, sym, ap, ◌∙◌, subst, arith, eqb-true}
use Rattle.std.specs.Char.{digit_value}
use Rattle.std.specs.Fmt.{decimal}
use Rattle.std.specs.Str.Parse.{AllDigits, digits_value}
use Rattle.std.proofs.lemmas.Bool.{eqb-false}
use Rattle.std.proofs.lemmas.Int.Digits.{digits_value_more, digits_more}
use Rattle.std.proofs.lemmas.Str.{digit_value_digit}
use Rattle.std.proofs.lemmas.Str.Parse.{digit_at}
use Rattle.std.proofs.Math.Seq.{take-length}
use Rattle.fa_texts.proofs.Cuts.{writes, written, no_leading_zero, prefix_value}
use Rattle.fa_texts.proofs.words.number.Goals as goal
use Rattle.fa_texts.proofs.words.number.Goals.{else-word-eq48-via-then-word-eq48+else-word-gt1, else-word-eq48-via-else-word-eq48, then-byte-lt48-via-then-byte-lt48, then-byte-lt48-via-else-byte-lt48+then-byte-gt57}

pub returns-then-is_empty : goal.returns-then-is_empty
returns-then-is_empty c = λ n few is.
    let none : length c.args.word.now ≡ 0 = eqb-true (length c.args.word.now) 0 (sym c.is_empty.ensures ∙ c.if-is_empty.true) in
    let some = (written c.args.word.now n (omega (arith, few, c.requires)) is).0 in
    omega (arith, none, some)

pub returns-then-word-gt1 : goal.returns-then-word-gt1
returns-then-word-gt1 c = λ n few is.
    no_leading_zero c.args.word.now n (omega (arith, few, c.requires)) is c.if-word-eq48.true c.if-word-gt1.true

pub returns-then-byte-lt48 : goal.returns-then-byte-lt48
returns-then-byte-lt48 c = λ n few is.
    let digits = (written c.args.word.now n (omega (arith, few, c.requires)) is).1 in
    let digit = digit_at c.args.word.now c.loop-byte.byte-index digits c.loop-byte-test.true in
    elim c.then-byte-lt48.branch [
      | then-byte-lt48-via-then-byte-lt48 w ↦ omega (arith, digit.0, w.if-byte-lt48.true)
      | then-byte-lt48-via-else-byte-lt48+then-byte-gt57 w ↦ omega (arith, digit.1, w.if-byte-gt57.true)
    ]

pub returns-then-max-value : goal.returns-then-max-value
returns-then-max-value c = λ n few is.
    let value = (written c.args.word.now n (omega (arith, few, c.requires)) is).2 in
    let more = digits_value_more 10 c.args.word.now c.loop-byte.byte-index c.loop-byte-test.true in
    let digit = digit_value_digit (get_or c.args.word.now c.loop-byte.byte-index 0) (c.if-byte-lt48.false, c.if-byte-gt57.false) in
    let front = prefix_value c.args.word.now (c.loop-byte.byte-index + 1) in
    omega (arith, value, more, digit, front, c.loop-byte.invariant.0, c.from.ensures, c.if-max-value.true, few)

pub loop-byte-preserved : goal.loop-byte-preserved
loop-byte-preserved c =
    let more = digits_value_more 10 c.args.word.now c.loop-byte.byte-index c.loop-byte-test.true in
    let digit = digit_value_digit (get_or c.args.word.now c.loop-byte.byte-index 0) (c.if-byte-lt48.false, c.if-byte-gt57.false) in
    let small : digit_value (get_or c.args.word.now c.loop-byte.byte-index 0) < 10 = omega (arith, digit, c.if-byte-gt57.false) in (
      omega (arith, more, digit, c.loop-byte.invariant.0, c.from.ensures),
      digits_more 10 c.args.word.now c.loop-byte.byte-index c.loop-byte-test.true c.loop-byte.invariant.1 small,
      c.if-max-value.false,
    )

pub returns : goal.returns
returns c =
    let end : c.loop-byte.byte-index ≡ length c.args.word.now = omega arith in
    let whole = ap (λ n. take n c.args.word.now) end ∙ take-length c.args.word.now in
    let value = c.loop-byte.invariant.0 ∙ ap (λ v. digits_value 10 v) whole in
    let digits = subst (λ v. AllDigits 10 v) whole c.loop-byte.invariant.1 in
    let some : 0 < length c.args.word.now = (let no = eqb-false (length c.args.word.now) 0 (sym c.is_empty.ensures ∙ c.if-is_empty.false) in omega (arith, no)) in
    let lead : get_or c.args.word.now 0 0 ≡ 48 → length c.args.word.now ≡ 1 = λ zero_first.
    elim c.else-word-eq48.branch [
      | else-word-eq48-via-then-word-eq48+else-word-gt1 w ↦ omega (arith, some, w.if-word-gt1.false)
      | else-word-eq48-via-else-word-eq48 w ↦ absurd (w.if-word-eq48.false zero_first)
    ] in
    (c.loop-byte.invariant.2, writes c.args.word.now digits some lead (omega (arith, value, c.loop-byte.invariant.2, c.requires)) ∙ ap decimal (sym value))
