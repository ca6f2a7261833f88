use Rattle.std.proofs.Common.{◌≡◌, ◌≢◌, ℕ, List, map, sym, ap, ◌∙◌, refl}
use Rattle.std.specs.Fmt.{decimal}
use Rattle.fa_texts.specs.Numbers.{IsRisingUpTo}
use Rattle.fa_texts.specs.Text.{words_left}
use Rattle.fa_texts.proofs.Cuts.{nothing_left, something_left}
use Rattle.fa_texts.proofs.LinesRead.{short_says, other_word, no_words, writes_each, numbers_below}
use Rattle.fa_batch_terms.proofs.Parts.{rest_same, where_none, where_some}
use Rattle.fa_texts.proofs.certificate_text.short_line.Goals as goal

pub returns-then-is_none : goal.returns-then-is_none
returns-then-is_none g c = (
  λ x fine is. other_word _ _ _ _ refl (sym is),
  λ pages fine some is.
      some (no_words (λ p. p.0) pages (sym (rest_same is) ∙ nothing_left c.args.rest c.if-is_none.ensures)),
  λ is. other_word _ _ _ _ refl is,
)

pub returns-in_ok-shortage_of-in-Some : goal.returns-in_ok-shortage_of-in-Some
returns-in_ok-shortage_of-in-Some g c =
    let read =
    where_some ((ns : List ℕ) → IsRisingUpTo 1048575 ns → words_left c.args.rest ≢ map decimal ns)
    (λ ns. IsRisingUpTo 1048575 ns.items × (words_left c.args.rest ≡ map decimal ns.items)) c.in-Some.numbers c.in-Some.is c.in_ok-numbers.ensures in
    let says =
    short_says c.in_ok-shortage_of-in-Some.field-0 c.in-Some.numbers.items (words_left c.args.rest) read.1 (c.in_ok-shortage_of-in-Some.ensures ∙ c.as_slice.ensures.value) read.0 in
    (says.0, says.1, λ none. something_left c.args.rest c.if-is_none.ensures (rest_same says.0 ∙ ap (λ v. map (λ p. decimal p.0) v) none))

pub returns-in-None : goal.returns-in-None
returns-in-None g c = (
  λ x fine is. other_word _ _ _ _ refl (sym is),
  λ pages fine some is.
      where_none ((ns : List ℕ) → IsRisingUpTo 1048575 ns → words_left c.args.rest ≢ map decimal ns)
      (λ ns. IsRisingUpTo 1048575 ns.items × (words_left c.args.rest ≡ map decimal ns.items)) c.in-None.is c.in_ok-numbers.ensures
      (map (λ p. p.0) pages) (record { within = numbers_below (λ p. p.0) 1048575 pages fine.known; rising = fine.rising }) (rest_same is ∙ sym (writes_each (λ p. p.0) pages)),
  λ is. other_word _ _ _ _ refl is,
)
