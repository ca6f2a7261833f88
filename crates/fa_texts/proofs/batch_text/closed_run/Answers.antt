use Rattle.std.proofs.Common.{◌≡◌, ◌≢◌, ◌∷◌, codes, sym, ◌∙◌, arith, subst}
use Rattle.std.specs.Option.{MatchOption}
use Rattle.std.proofs.lemmas.Fmt.{decimal_injective}
use Rattle.fa_closed.specs.declared.closed.Run.{Run}
use Rattle.fa_texts.specs.BatchText.{HasClosedLine, closed_line}
use Rattle.fa_texts.specs.Text.{words_left}
use Rattle.fa_batch_terms.proofs.Parts.{first_same, rest_same}
use Rattle.fa_texts.proofs.batch_text.closed_run.Goals as goal
use Rattle.fa_texts.proofs.batch_text.closed_run.Goals.{then-first-eq0-via-then-first-eq0, then-first-eq0-via-else-first-eq0+then-last-first}

pub returns-in_err-die : goal.returns-in_err-die
returns-in_err-die c =
    subst (λ r. MatchOption r ((run : Run) → HasClosedLine run → codes "closed" ∷ words_left c.args.rest ≢ closed_line run)
    (λ run. (codes "closed" ∷ words_left c.args.rest ≡ closed_line run) × HasClosedLine run))
    (sym c.from_residual.ensures) (λ run fine is.
    c.in_err-die.ensures (run.die.0, run.first.0, run.last.0) (fine.die, omega (arith, fine.forward, fine.ends), fine.ends) (rest_same is))

pub returns-then-first-eq0 : goal.returns-then-first-eq0
returns-then-first-eq0 c = λ run fine is.
    let read = c.in_ok-die.ensures in
    let words = sym read.1 ∙ rest_same is in
    let first = decimal_injective c.in_ok-die.first run.first.0 (omega (arith, read.0.1)) (omega (arith, fine.forward, fine.ends)) (first_same (rest_same words)) in
    let last = decimal_injective c.in_ok-die.last run.last.0 (omega (arith, read.0.2)) (omega (arith, fine.ends)) (first_same (rest_same (rest_same words))) in
    elim c.then-first-eq0.branch [
      | then-first-eq0-via-then-first-eq0 w ↦ omega (arith, first, fine.begins, w.if-first-eq0.true)
      | then-first-eq0-via-else-first-eq0+then-last-first w ↦ omega (arith, first, last, fine.forward, w.if-last-first.true)
    ]
