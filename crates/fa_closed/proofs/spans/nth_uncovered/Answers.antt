use Rattle.std.proofs.Common.{sym, ap, ◌∙◌, arith}
use Rattle.fa_closed.specs.declared.spans.Span.{Span}
use Rattle.fa_closed.proofs.Covered.{nth_is_free, rising_at, step_near, stays_early, stays_past}
use Rattle.fa_closed.proofs.spans.nth_uncovered.Goals as goal

pub overflow_sub-round-then-from-span : goal.overflow_sub-round-then-from-span
overflow_sub-round-then-from-span g c =
    let d : Span = c.index-span.result.now in
    let here = c.index-span.ensures in
    let size = c.args.spans.now.ok in
    let proper = rising_at c.args.spans.now.items c.loop-index.index d c.requires.rising (omega (arith, size.0)) in
    let f = ap (λ (s : Span). s.first) here in let l = ap (λ (s : Span). s.last) here in
    omega (arith, proper, f, l, c.max.ensures, c.if-from-span.true)

pub overflow_add-round-then-from-span : goal.overflow_add-round-then-from-span
overflow_add-round-then-from-span g c =
    let d : Span = c.index-span.result.now in
    let here = c.index-span.ensures in
    let size = c.args.spans.now.ok in
    let near = step_near c.args.from c.args.n c.args.spans.now.items c.requires.rising c.requires.first c.requires.few c.loop-index.index c.loop-index.round d (omega (arith, size.0)) c.loop-index.invariant (omega (arith, ap (λ (s : Span). s.first) here)) (omega (arith, ap (λ (s : Span). s.last) here)) in
    let f = ap (λ (s : Span). s.first) here in let l = ap (λ (s : Span). s.last) here in
    omega (arith, near, f, l, c.max.ensures, c.requires.early, c.requires.small)

pub overflow_add-round-then-from-span-2 : goal.overflow_add-round-then-from-span-2
overflow_add-round-then-from-span-2 g c =
    let d : Span = c.index-span.result.now in
    let here = c.index-span.ensures in
    let size = c.args.spans.now.ok in
    let near = step_near c.args.from c.args.n c.args.spans.now.items c.requires.rising c.requires.first c.requires.few c.loop-index.index c.loop-index.round d (omega (arith, size.0)) c.loop-index.invariant (omega (arith, ap (λ (s : Span). s.first) here)) (omega (arith, ap (λ (s : Span). s.last) here)) in
    let f = ap (λ (s : Span). s.first) here in let l = ap (λ (s : Span). s.last) here in
    omega (arith, near, f, l, c.max.ensures, c.requires.early, c.requires.small)

pub returns-after-loop-index : goal.returns-after-loop-index
returns-after-loop-index g c =
    nth_is_free c.args.from c.args.n c.args.spans.now.items c.requires.rising c.requires.first c.loop-index.round
    (sym (stays_past c.args.from c.loop-index.round c.args.spans.now.items c.loop-index.index (let size = c.args.spans.now.ok in omega (arith, size.0))) ∙ c.loop-index.invariant)

pub returns-then-round-span : goal.returns-then-round-span
returns-then-round-span g c =
    let d : Span = c.index-span.result.now in
    let here = ap (λ (s : Span). s.first) c.index-span.ensures in
    let size = c.args.spans.now.ok in
    nth_is_free c.args.from c.args.n c.args.spans.now.items c.requires.rising c.requires.first c.loop-index.round
    (sym (stays_early c.args.from c.loop-index.round c.args.spans.now.items c.loop-index.index d (omega (arith, size.0)) (omega (arith, here, c.if-round-span.true))) ∙ c.loop-index.invariant)
