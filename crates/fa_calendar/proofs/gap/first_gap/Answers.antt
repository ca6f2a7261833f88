use Rattle.std.proofs.Common.{◌≡◌, ◌+◌, ◌-◌, ◌*◌, ◌<◌, ◌≤◌, inl, inr, length, take, get_or, sym, ap, ◌∙◌, arith}
use Rattle.std.proofs.lemmas.Bool.{cases_lt}
use Rattle.std.proofs.lemmas.List.{get_or_default}
use Rattle.fa_closed.specs.declared.spans.Span.{Span}
use Rattle.fa_closed.specs.Runs.{is_covered}
use Rattle.fa_calendar.specs.Merging.{total_rounds}
use Rattle.fa_calendar.proofs.Merged.{covered_here, merged_here}
use Rattle.fa_calendar.proofs.Gaps.{open_run, closed_run, open_between, gap_near, gap_few}
use Rattle.fa_calendar.proofs.gap.first_gap.Given.{Over}
use Rattle.fa_calendar.proofs.gap.first_gap.Goals as goal
use Rattle.fa_calendar.proofs.gap.first_gap.Goals.{Else-saturating_sub-count}

-- how far the next run is at most
ends_near : (g : Over) (c : Else-saturating_sub-count g) → c.index-span.result.now.last + 1 ≤ c.args.now + 1 + total_rounds (take (c.loop-index.index + 1) c.args.spans.now.items) + (c.loop-index.index + 1) * 64
ends_near g c =
    let s : Span = c.index-span.result.now in
    let size = c.args.spans.now.ok in
    let within : c.loop-index.index < length c.args.spans.now.items = omega (arith, size.0) in
    let more = gap_near c.args.spans.now.items c.loop-index.index s within c.index-span.ensures in
    let proper = (merged_here c.args.spans.now.items c.loop-index.index s c.requires.merged within c.index-span.ensures).0 in
    let near = c.loop-index.invariant.near in
    omega (arith, more, proper, near, c.saturating_sub.ensures, c.if-saturating_sub-count.false, c.requires.short)

pub overflow_add-span : goal.overflow_add-span
overflow_add-span g c =
    let size = c.args.spans.now.ok in
    let near = ends_near g (goal.at.overflow_add-span g c).Else-saturating_sub-count in
    let few = gap_few c.args.spans.now.items (c.loop-index.index + 1) c.requires.merged c.requires.few (omega (arith, size.0)) in
    omega (arith, near, few.0, few.1, c.requires.early)

pub returns-then-saturating_sub-count-clause-first : goal.returns-then-saturating_sub-count-clause-first
returns-then-saturating_sub-count-clause-first g c =
    let s : Span = c.index-span.result.now in
    let size = c.args.spans.now.ok in
    let within : c.loop-index.index < length c.args.spans.now.items = omega (arith, size.0) in
    let here = ap (λ (t : Span). t.first) c.index-span.ensures in
    record {
      later = c.loop-index.invariant.later;
      opens = open_run (is_covered c.args.spans.now.items) c.args.count c.loop-index.first (λ k below.
          open_between c.args.spans.now.items c.loop-index.index (c.loop-index.first + k) c.requires.merged (omega arith)
          (λ j d low. let end = c.loop-index.invariant.before j d low in omega (arith, end))
          (λ d some. let same = ap (λ (t : Span). t.first) (get_or_default c.args.spans.now.items c.loop-index.index d s some) in omega (arith, same, here, below, c.saturating_sub.ensures, c.if-saturating_sub-count.true, c.requires.some)));
      earliest = c.loop-index.invariant.earliest;
    }

pub returns-then-saturating_sub-count-clause-near : goal.returns-then-saturating_sub-count-clause-near
returns-then-saturating_sub-count-clause-near g c =
    let size = c.args.spans.now.ok in
    let near = c.loop-index.invariant.near in
    let few = gap_few c.args.spans.now.items c.loop-index.index c.requires.merged c.requires.few (omega (arith, size.0)) in
    omega (arith, near, few.0, few.1)

pub loop-index-preserved : goal.loop-index-preserved
loop-index-preserved g c =
    let s : Span = c.index-span.result.now in
    let size = c.args.spans.now.ok in
    let within : c.loop-index.index < length c.args.spans.now.items = omega (arith, size.0) in
    let more = gap_near c.args.spans.now.items c.loop-index.index s within c.index-span.ensures in
    let next = ends_near g (goal.at.loop-index-preserved g c).Else-saturating_sub-count in
    let near = c.loop-index.invariant.near in
    let proper = (merged_here c.args.spans.now.items c.loop-index.index s c.requires.merged within c.index-span.ensures).0 in
    record {
      later = omega (arith, c.loop-index.invariant.later, c.max-first.ensures);
      near = omega (arith, more, next, near, c.max-first.ensures);
      before = λ k d below. elim (cases_lt k c.loop-index.index) [
        | inl earlier ↦ (let end = c.loop-index.invariant.before k d earlier in omega (arith, end, c.max-first.ensures))
        | inr same ↦
            (let at : k ≡ c.loop-index.index = omega (arith, same, below) in
            let here = ap (λ (t : Span). t.last) (ap (λ j. get_or c.args.spans.now.items j d) at ∙ get_or_default c.args.spans.now.items c.loop-index.index d s within ∙ sym c.index-span.ensures) in
            omega (arith, here, c.max-first.ensures))
      ];
      earliest = λ round low high. elim (cases_lt round c.loop-index.first) [
        | inl earlier ↦ c.loop-index.invariant.earliest round low earlier
        | inr on ↦ elim (cases_lt round s.first) [
          | inl early ↦
              (let k : round + (s.first - round) ≡ s.first = omega (arith, early) in
              closed_run (is_covered c.args.spans.now.items) c.args.count round (s.first - round) (omega (arith, on, early, c.saturating_sub.ensures, c.if-saturating_sub-count.false))
              (ap (is_covered c.args.spans.now.items) k ∙ covered_here c.args.spans.now.items c.loop-index.index s c.requires.merged within c.index-span.ensures s.first (omega arith) proper))
          | inr late ↦
              (let k : round + 0 ≡ round = omega arith in
              closed_run (is_covered c.args.spans.now.items) c.args.count round 0 (omega (arith, c.requires.some))
              (ap (is_covered c.args.spans.now.items) k ∙ covered_here c.args.spans.now.items c.loop-index.index s c.requires.merged within c.index-span.ensures round late (omega (arith, on, high, c.max-first.ensures))))
        ]
      ];
    }

pub returns-clause-first : goal.returns-clause-first
returns-clause-first g c =
    let size = c.args.spans.now.ok in
    record {
      later = c.loop-index.invariant.later;
      opens = open_run (is_covered c.args.spans.now.items) c.args.count c.loop-index.first (λ k below.
          open_between c.args.spans.now.items c.loop-index.index (c.loop-index.first + k) c.requires.merged (omega (arith, size.0))
          (λ j d low. let end = c.loop-index.invariant.before j d low in omega (arith, end))
          (λ d some. absurd (omega (arith, size.0, some))));
      earliest = c.loop-index.invariant.earliest;
    }

pub returns-clause-near : goal.returns-clause-near
returns-clause-near g c =
    let size = c.args.spans.now.ok in
    let near = c.loop-index.invariant.near in
    let few = gap_few c.args.spans.now.items c.loop-index.index c.requires.merged c.requires.few (omega (arith, size.0)) in
    omega (arith, near, few.0, few.1)
