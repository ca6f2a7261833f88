use Rattle.std.proofs.Common.{◌≡◌, ◌≢◌, ℕ, ◌∷◌, [], sym, ap, ◌∙◌, subst}
use Rattle.std.specs.Fmt.{decimal}
use Rattle.std.specs.Option.{MatchOption}
use Rattle.fa_texts.specs.Numbers.{AreWithin, three_words}
use Rattle.fa_texts.specs.Text.{words_left}
use Rattle.fa_texts.proofs.Cuts.{words_some}
use Rattle.fa_batch_terms.proofs.Parts.{rest_same}
use Rattle.fa_texts.proofs.words.three_numbers.Goals as goal

pub returns-in_err-second : goal.returns-in_err-second
returns-in_err-second c =
    subst (λ r. MatchOption r ((n : ℕ × ℕ × ℕ) → AreWithin c.args.max n → words_left c.args.line ≢ three_words n)
    (λ n. AreWithin c.args.max n × (words_left c.args.line ≡ three_words n)))
    (sym c.from_residual-in_err-second.ensures) (λ n few is. c.in_err-second.ensures n.1 (decimal n.2 ∷ []) few.1 (rest_same (sym c.in_ok-first.ensures.1 ∙ is)))

pub returns-in_err-third : goal.returns-in_err-third
returns-in_err-third c =
    subst (λ r. MatchOption r ((n : ℕ × ℕ × ℕ) → AreWithin c.args.max n → words_left c.args.line ≢ three_words n)
    (λ n. AreWithin c.args.max n × (words_left c.args.line ≡ three_words n)))
    (sym c.from_residual-in_err-third.ensures) (λ n few is.
    c.in_err-third.ensures n.2 [] few.2 (rest_same (sym c.in_ok-second.ensures.1 ∙ rest_same (sym c.in_ok-first.ensures.1 ∙ is))))

pub returns-in-Some : goal.returns-in-Some
returns-in-Some c = λ n few is.
    let end : words_left c.in_ok-third.rest ≡ [] =
    rest_same (sym c.in_ok-third.ensures.1 ∙ rest_same (sym c.in_ok-second.ensures.1 ∙ rest_same (sym c.in_ok-first.ensures.1 ∙ is))) in
    words_some c.in-Some.field-0.now (sym (ap (λ l. words_left l) c.in-Some.is) ∙ end)
