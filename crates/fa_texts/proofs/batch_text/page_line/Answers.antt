use Rattle.std.proofs.Common.{◌≡◌, ◌≢◌, ℕ, List, ◌∷◌, map, codes, sym, ap, ◌∙◌, refl}
use Rattle.std.specs.Fmt.{decimal}
use Rattle.fa_texts.specs.Numbers.{IsRisingUpTo}
use Rattle.fa_texts.specs.Text.{words_left}
use Rattle.fa_texts.proofs.LinesRead.{page_says, other_word, writes_each, numbers_below}
use Rattle.fa_batch_terms.proofs.Parts.{rest_same, where_none, where_some}
use Rattle.fa_texts.proofs.batch_text.page_line.Goals as goal

pub returns-in_ok-holders-in-Some-2 : goal.returns-in_ok-holders-in-Some-2
returns-in_ok-holders-in-Some-2 g c =
    let read =
    where_some ((ns : List ℕ) → IsRisingUpTo 63 ns → words_left c.cut_word.result.1 ≢ map decimal ns)
    (λ ns. IsRisingUpTo 63 ns.items × (words_left c.cut_word.result.1 ≡ map decimal ns.items)) c.in-Some-2.numbers c.in-Some-2.is c.in_ok-numbers.ensures in
    let on = c.is_word.ensures.0 c.if-not-is_word.false in
    let left = ap (λ l. words_left l) c.in-Some-rest.is ∙ c.cut_word.ensures.words ∙ ap (λ w. w ∷ words_left c.cut_word.result.1) on ∙ ap (λ v. codes "on" ∷ v) read.1 in
    page_says (record { 0 = c.in-Some.page }) c.in_ok-holders-in-Some-2.holders.items c.in-Some-2.numbers.items (words_left c.args.rest)
    (c.in-Some.ensures.1 ∙ ap (λ v. decimal c.in-Some.page ∷ v) left) (c.in_ok-holders-in-Some-2.ensures ∙ c.as_slice.ensures.value) c.in-Some.ensures.0 read.0

pub returns-in-None : goal.returns-in-None
returns-in-None g c = (
  λ e fine is.
      let behind = sym c.in-Some.ensures.1 ∙ rest_same is in
      let holders = sym c.cut_word.ensures.words ∙ sym (ap (λ l. words_left l) c.in-Some-rest.is) ∙ rest_same behind in
      where_none ((ns : List ℕ) → IsRisingUpTo 63 ns → words_left c.cut_word.result.1 ≢ map decimal ns)
      (λ ns. IsRisingUpTo 63 ns.items × (words_left c.cut_word.result.1 ≡ map decimal ns.items)) c.in-None.is c.in_ok-numbers.ensures
      (map (λ d. d.0) e.holders) (record { within = numbers_below (λ d. d.0) 63 e.holders fine.dies; rising = fine.rising }) (rest_same holders ∙ sym (writes_each (λ d. d.0) e.holders)),
  λ run fine is. other_word _ _ _ _ refl is,
  λ is. other_word _ _ _ _ refl is,
)
