use Rattle.std.proofs.Common.{ℕ, ◌+◌, ◌-◌, ◌/◌, ◌<◌, arith, inl, inr, length, get_or, ap}
use Rattle.std.proofs.lemmas.Bool.{ltb-true, lt-ltb, cases_lt}
use Rattle.std.proofs.lemmas.List.{get_or_default}
use Rattle.fa_closed.specs.declared.spans.Span.{Span}
use Rattle.fa_closed.proofs.Covered.{ends_first}
use Rattle.fa_closed.proofs.spans.index_from.Goals as goal

pub loop-low-preserved-then-index-round : goal.loop-low-preserved-then-index-round
loop-low-preserved-then-index-round g c =
    let middle : ℕ = c.loop-low.low + (c.loop-low.high - c.loop-low.low) / 2 in
    let d : Span = c.index.result.now in
    let here = ap (λ (s : Span). s.last) c.index.ensures in
    let size = c.args.spans.now.ok in
    record {
      ordered = omega arith;
      within = omega arith;
      before = λ i e below.
          let within : middle < length c.args.spans.now.items = omega arith in
          let default = ap (λ (s : Span). s.last) (get_or_default c.args.spans.now.items middle d e within) in
          ltb-true _ _ (ends_first c.args.spans.now.items c.args.round c.requires i middle e (omega (arith, below)) within (lt-ltb _ _ (omega (arith, here, default, c.if-index-round.true))));
      after = c.loop-low.invariant.after;
    }

pub loop-low-preserved : goal.loop-low-preserved
loop-low-preserved g c =
    let middle : ℕ = c.loop-low.low + (c.loop-low.high - c.loop-low.low) / 2 in
    let d : Span = c.index.result.now in
    let here = ap (λ (s : Span). s.last) c.index.ensures in
    record {
      ordered = omega arith;
      within = omega arith;
      before = c.loop-low.invariant.before;
      after = λ i e low below.
          let within : middle < length c.args.spans.now.items = omega arith in
          let default = ap (λ (s : Span). s.last) (get_or_default c.args.spans.now.items middle d e within) in
          elim (cases_lt (get_or c.args.spans.now.items i e).last c.args.round) [
            | inr late ↦ late
            | inl early ↦
                (let first = ltb-true (get_or c.args.spans.now.items middle e).last c.args.round
                (ends_first c.args.spans.now.items c.args.round c.requires middle i e low below (lt-ltb _ _ early)) in
                absurd (omega (arith, first, here, default, c.if-index-round.false)))
          ];
    }
