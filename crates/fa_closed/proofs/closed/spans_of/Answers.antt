use Rattle.std.proofs.Common.{◌≡◌, ℕ, ◌≤◌, ◌||◌, inl, inr, [], length, get_or, sym, ap, ◌∙◌, subst, arith}
use Rattle.std.specs.List.{AllByRecursion}
use Rattle.std.proofs.lemmas.Bool.{cases_eq}
use Rattle.std.proofs.lemmas.List.{get_or_default}
use Rattle.std.proofs.lemmas.List.Folds.{list_any_more}
use Rattle.fa_closed.specs.declared.closed.Run.{Run}
use Rattle.fa_closed.specs.declared.spans.Span.{Span}
use Rattle.fa_closed.specs.Runs.{closes, is_covered}
use Rattle.fa_batch_terms.proofs.Counting.{AllByRecursion-weaker}
use Rattle.fa_batch_terms.proofs.Counting.{get_or-replicate_default}
use Rattle.fa_closed.proofs.closed.spans_of.Goals as goal

pub loop-run-init : goal.loop-run-init
loop-run-init g c =
    let none : (die : ℕ) → get_or c.in_ok-dies.dies.items die [] ≡ [] = λ die. ap (λ v. get_or v die []) c.in_ok-dies.ensures ∙ get_or-replicate_default 256 die [] in (
      ap (λ v. length v) c.in_ok-dies.ensures,
      λ die round. ap (λ v. is_covered v round) (none die),
      λ die j d from below. subst (λ v. AllByRecursion (λ s. s.first ≤ (get_or c.args.runs.now j d).first.0) v) (sym (none die)) tt,
    )

pub close-requires-clause-later : goal.close-requires-clause-later
close-requires-clause-later g c =
    let d : Run = record { die = record { 0 = 0 }; first = record { 0 = 0 }; last = record { 0 = 0 } } in
    c.loop-run.invariant.2 (get_or c.args.runs.now c.loop-run.run-index d).die.0 c.loop-run.run-index d (omega arith) c.loop-run-test.true

pub loop-run-preserved : goal.loop-run-preserved
loop-run-preserved g c =
    let d : Run = record { die = record { 0 = 0 }; first = record { 0 = 0 }; last = record { 0 = 0 } } in
    let run : Run = get_or c.args.runs.now c.loop-run.run-index d in (
      c.in_ok-close.ensures.long,
      λ die round. c.in_ok-close.ensures.closed die round
          ∙ ap (λ b. b || closes run die round) (c.loop-run.invariant.1 die round)
          ∙ sym (list_any_more (λ (x : Run). closes x die round) c.args.runs.now c.loop-run.run-index d c.loop-run-test.true),
      λ die j e from below.
          elim (cases_eq die run.die.0) [
            | inl same ↦
                (let rises : run.first.0 ≤ (get_or c.args.runs.now j e).first.0 =
                subst (λ x. run.first.0 ≤ x) (ap (λ (x : Run). x.first.0) (get_or_default c.args.runs.now j d e below)) (c.requires c.loop-run.run-index j d (omega (arith, from)) below) in
                subst (λ k. AllByRecursion (λ s. s.first ≤ (get_or c.args.runs.now j e).first.0) (get_or c.close.new.dies.items k [])) (sym same)
                (AllByRecursion-weaker (λ (s : Span). s.first ≤ run.first.0) (λ s. s.first ≤ (get_or c.args.runs.now j e).first.0) (λ s h. omega (arith, h, rises))
                (get_or c.close.new.dies.items run.die.0 []) c.in_ok-close.ensures.begins))
            | inr other ↦
                subst (λ v. AllByRecursion (λ s. s.first ≤ (get_or c.args.runs.now j e).first.0) v) (sym (c.in_ok-close.ensures.others die other))
                (c.loop-run.invariant.2 die j e (omega (arith, from)) below)
          ],
    )
