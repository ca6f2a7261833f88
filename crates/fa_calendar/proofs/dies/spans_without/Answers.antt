use Rattle.std.proofs.Common.{◌≡◌, ◌&&◌, not, [], ◌∷◌, List, inl, inr, length, get_or, sym, ap, ◌∙◌, arith}
use Rattle.std.proofs.lemmas.Bool.{and_left, cases_lt}
use Rattle.std.proofs.lemmas.List.{get_or_append_left, get_or_default, get_or_past, get_or_push, length_push}
use Rattle.fa_closed.specs.declared.spans.Span.{Span}
use Rattle.fa_closed.specs.Runs.{is_covered}
use Rattle.fa_calendar.specs.DieState.{DieState}
use Rattle.fa_calendar.specs.Dies.{closed_by, is_at, no_rounds}
use Rattle.fa_calendar.proofs.dies.spans_without.Goals as goal

pub loop-number-preserved : goal.loop-number-preserved
loop-number-preserved g c =
    let pushed = c.in_ok-push.ensures.items in
    let size = c.loop-number.invariant.long in
    let now = ap length pushed in
    let long = length_push c.loop-number.all.items c.in_ok-spans.spans in
    record {
      long = omega (arith, now, long, size);
      closed = λ die round below.
          ap (λ (v : List (List Span)). is_covered (get_or v die []) round) pushed
          ∙ elim (cases_lt die c.loop-number.number) [
            | inl before ↦
                ap (λ (v : List Span). is_covered v round) (get_or_append_left c.loop-number.all.items (c.in_ok-spans.spans ∷ []) [] die (omega (arith, before, size)))
                ∙ c.loop-number.invariant.closed die round before
            | inr on ↦
                (let at : die ≡ c.loop-number.number = omega (arith, on, below) in
                let here = ap (λ (s : DieState). is_covered s.spans round) (c.index.ensures ∙ get_or_default c.args.dies.now.items c.loop-number.number c.index.result.now no_rounds (omega (arith, c.requires))) in
                ap (λ (v : List Span). is_covered v round) (get_or_push c.loop-number.all.items c.in_ok-spans.spans [] die (omega (arith, at, size)))
                ∙ c.in_ok-spans.ensures round
                ∙ ap (λ b. b && not (is_at c.args.without.now c.loop-number.number round)) here
                ∙ ap (λ k. closed_by c.args.dies.now.items k round && not (is_at c.args.without.now k round)) (sym at))
          ];
    }

pub returns-clause-closed : goal.returns-clause-closed
returns-clause-closed g c = λ die round.
    let size = c.loop-number.invariant.long in
    elim (cases_lt die 256) [
      | inl low ↦ c.loop-number.invariant.closed die round (omega (arith, low))
      | inr high ↦
          ap (λ (v : List Span). is_covered v round) (get_or_past c.loop-number.all.items die [] (omega (arith, high, size)))
          ∙ sym (and_left (closed_by c.args.dies.now.items die round) (not (is_at c.args.without.now die round))
          (ap (λ (s : DieState). is_covered s.spans round) (get_or_past c.args.dies.now.items die no_rounds (omega (arith, high, c.requires)))))
    ]
