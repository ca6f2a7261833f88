use Rattle.std.proofs.Common.{◌≡◌, ◌+◌, length, take, arith, sym, ap, ◌∙◌}
use Rattle.std.specs.List.{sum_by}
use Rattle.std.proofs.lemmas.List.Sums.{sum_by_more, sum_by-take-le}
use Rattle.std.proofs.Math.Seq.{take-length}
use Rattle.fa_closed.specs.declared.spans.Span.{Span}
use Rattle.fa_closed.proofs.Covered.{overlap_of, covered_sum, covered_fits}
use Rattle.fa_closed.proofs.spans.count_covered.Goals as goal

pub overflow_add-count : goal.overflow_add-count
overflow_add-count g c =
    let d : Span = c.index-span.result.now in
    let here = c.index-span.ensures in
    let size = c.args.spans.now.ok in
    let more = sum_by_more (overlap_of c.args.from c.args.rounds) c.args.spans.now.items c.loop-index.index d (omega (arith, size.0)) in
    let part = sum_by-take-le (overlap_of c.args.from c.args.rounds) c.args.spans.now.items (c.loop-index.index + 1) in
    let fits = covered_fits c.args.from c.args.rounds c.args.spans.now.items c.requires.rising in
    let added = ap (overlap_of c.args.from c.args.rounds) here in
    omega (arith, more, part, fits, added, c.loop-index.invariant, c.overlap-count.ensures, c.requires.fits)

pub returns : goal.returns
returns g c =
    let size = c.args.spans.now.ok in
    let end : c.loop-index.index ≡ length c.args.spans.now.items = omega (arith, size.0) in
    c.loop-index.invariant ∙ ap (λ n. sum_by (overlap_of c.args.from c.args.rounds) (take n c.args.spans.now.items)) end ∙ ap (λ v. sum_by (overlap_of c.args.from c.args.rounds) v) (take-length c.args.spans.now.items)
    ∙ sym (covered_sum c.args.from c.args.rounds c.args.spans.now.items c.requires.rising)

pub loop-index-preserved : goal.loop-index-preserved
loop-index-preserved g c =
    let d : Span = c.index-span.result.now in
    let here = c.index-span.ensures in
    let size = c.args.spans.now.ok in
    let more = sum_by_more (overlap_of c.args.from c.args.rounds) c.args.spans.now.items c.loop-index.index d (omega (arith, size.0)) in
    let added = ap (overlap_of c.args.from c.args.rounds) here in
    omega (arith, more, added, c.loop-index.invariant, c.overlap-count.ensures)
