use Rattle.std.proofs.Common.{◌-◌, ◌<◌, ◌≤◌, ◌∷◌, ◌++◌, [], length, map, get_or, sym, ap, ◌∙◌, subst, arith, append_assoc}
use Rattle.std.specs.Fmt.{decimal}
use Rattle.std.specs.List.Sorted.{IsStrictlyIncreasing}
use Rattle.std.proofs.lemmas.Bool.{false≢true}
use Rattle.std.proofs.lemmas.Fmt.{decimal_injective}
use Rattle.std.proofs.lemmas.List.{map-append}
use Rattle.std.proofs.lemmas.List.Elements.{All-push}
use Rattle.fa_texts.specs.Numbers.{IsRisingUpTo}
use Rattle.fa_texts.specs.Text.{words_left}
use Rattle.fa_texts.proofs.Numbers.{number_next, rises_more, rises_past}
use Rattle.fa_texts.proofs.words.rising_numbers.Goals as goal

pub returns-in_default-number : goal.returns-in_default-number
returns-in_default-number g c = λ ns rise is.
    let left = c.loop-rest.invariant.1 ∙ ap (λ l. map decimal c.loop-rest.numbers.items ++ words_left l) c.in-Some.is ∙ ap (λ v. map decimal c.loop-rest.numbers.items ++ v) c.cut_word.ensures.words in
    let next = number_next c.args.max c.loop-rest.numbers.items ns c.cut_word.result.0.now (words_left c.cut_word.result.1) c.requires c.loop-rest.invariant.0.within rise.within (sym left ∙ is) in
    c.in_default-number.ensures next.0 next.4 next.3

pub returns-then-not-is_above : goal.returns-then-not-is_above
returns-then-not-is_above g c = λ ns rise is.
    let left = c.loop-rest.invariant.1 ∙ ap (λ l. map decimal c.loop-rest.numbers.items ++ words_left l) c.in-Some.is ∙ ap (λ v. map decimal c.loop-rest.numbers.items ++ v) c.cut_word.ensures.words in
    let next = number_next c.args.max c.loop-rest.numbers.items ns c.cut_word.result.0.now (words_left c.cut_word.result.1) c.requires c.loop-rest.invariant.0.within rise.within (sym left ∙ is) in
    let read = c.in-Some-number.ensures in
    let same = decimal_injective c.in-Some-number.n next.0 (omega (arith, read.0, c.requires)) (omega (arith, next.4, c.requires)) (sym read.1 ∙ next.3) in
    let above : 0 < length c.loop-rest.numbers.items → get_or c.loop-rest.numbers.items (length c.loop-rest.numbers.items - 1) 0 < c.in-Some-number.n = λ some.
    (let up = rises_past c.loop-rest.numbers.items next.0 next.1 (subst (λ v. IsStrictlyIncreasing v) next.2 rise.rising) some in omega (arith, up, same)) in
    false≢true (c.if-not-is_above.ensures.1 (subst (λ v. 0 < length v → get_or v (length v - 1) 0 < c.in-Some-number.n) (sym c.as_slice.ensures.value) above))

pub loop-rest-preserved : goal.loop-rest-preserved
loop-rest-preserved g c =
    let read = c.in-Some-number.ensures in
    let pushed = c.in_ok-push.ensures.items in
    let last : 0 < length c.loop-rest.numbers.items → get_or c.loop-rest.numbers.items (length c.loop-rest.numbers.items - 1) 0 < c.in-Some-number.n =
    subst (λ v. 0 < length v → get_or v (length v - 1) 0 < c.in-Some-number.n) c.as_slice.ensures.value (c.is_above.ensures.0 c.if-not-is_above.false) in (
      subst (λ v. IsRisingUpTo c.args.max v) (sym pushed) (record {
        within = All-push (λ n. n ≤ c.args.max) c.loop-rest.numbers.items c.in-Some-number.n c.loop-rest.invariant.0.within read.0;
        rising = rises_more c.loop-rest.numbers.items c.in-Some-number.n c.loop-rest.invariant.0.rising last;
      }),
      c.loop-rest.invariant.1 ∙ ap (λ l. map decimal c.loop-rest.numbers.items ++ words_left l) c.in-Some.is ∙ ap (λ v. map decimal c.loop-rest.numbers.items ++ v) (c.cut_word.ensures.words ∙ ap (λ w. w ∷ words_left c.cut_word.result.1) read.1)
          ∙ sym (append_assoc (map decimal c.loop-rest.numbers.items) (decimal c.in-Some-number.n ∷ []) (words_left c.cut_word.result.1))
          ∙ ap (λ v. v ++ words_left c.cut_word.result.1) (sym (ap (λ v. map decimal v) pushed ∙ map-append decimal c.loop-rest.numbers.items (c.in-Some-number.n ∷ []))),
    )
