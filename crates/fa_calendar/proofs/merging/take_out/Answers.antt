use Rattle.std.proofs.Common.{◌<◌, length, sym, ap, ◌∙◌, arith}
use Rattle.std.proofs.lemmas.List.{get_or_default}
use Rattle.fa_closed.specs.declared.spans.Span.{Span}
use Rattle.fa_calendar.proofs.Merged.{drops_last, found_within, found_begun, found_last, merged_rising}
use Rattle.fa_calendar.proofs.merging.take_out.Given.{Over}
use Rattle.fa_calendar.proofs.merging.take_out.Goals as goal
use Rattle.fa_calendar.proofs.merging.take_out.Goals.{After-index_from-index}

is_within : (g : Over) (c : After-index_from-index g) → c.index_from-index.result < length c.args.spans.now.items
is_within g c = found_within c.args.spans.now.items c.args.round c.index_from-index.result c.requires.merged c.index_from-index.ensures c.requires.covered

pub index_from-index-requires : goal.index_from-index-requires
index_from-index-requires g c = merged_rising c.args.spans.now.items c.requires.merged

pub index-span-requires : goal.index-span-requires
index-span-requires g c = let size = c.args.spans.now.ok in let within = is_within g c in omega (arith, size.0, within)

pub trim-requires-clause-within : goal.trim-requires-clause-within
trim-requires-clause-within g c = is_within g (goal.at.trim-requires-clause-within g c).After-index_from-index

pub trim-requires-clause-begins : goal.trim-requires-clause-begins
trim-requires-clause-begins g c = λ d.
    let within = is_within g (goal.at.trim-requires-clause-begins g c).After-index_from-index in
    ap (λ (t : Span). t.first) (get_or_default c.args.spans.now.items c.index_from-index.result d c.index-span.result.now within ∙ sym c.index-span.ensures) ∙ c.if-span-round.true

pub overflow_sub-round : goal.overflow_sub-round
overflow_sub-round g c =
    let begun = found_begun c.args.spans.now.items c.args.round c.index_from-index.result c.requires.merged c.index_from-index.ensures c.requires.covered c.index-span.result.now in
    let here = ap (λ (t : Span). t.first) c.index-span.ensures in
    omega (arith, begun, here, c.if-span-round.false)

pub index_mut-requires : goal.index_mut-requires
index_mut-requires g c =
    let size = c.args.spans.now.ok in
    let within = is_within g (goal.at.index_mut-requires g c).After-index_from-index in
    omega (arith, size.0, within)

pub returns-then-span-round-2-clause-ok : goal.returns-then-span-round-2-clause-ok
returns-then-span-round-2-clause-ok g c =
    let within = is_within g (goal.at.returns-then-span-round-2-clause-ok g c).After-index_from-index in
    let begun = found_begun c.args.spans.now.items c.args.round c.index_from-index.result c.requires.merged c.index_from-index.ensures c.requires.covered c.index-span.result.now in
    let here = ap (λ (t : Span). t.first) c.index-span.ensures in
    drops_last c.args.spans.now.items c.index_from-index.result c.index-span.result.now c.requires.merged within c.index-span.ensures c.args.round
    (omega (arith, begun, here, c.if-span-round.false)) c.if-span-round-2.true

pub split-requires-clause-within : goal.split-requires-clause-within
split-requires-clause-within g c = is_within g (goal.at.split-requires-clause-within g c).After-index_from-index

pub split-requires-clause-begun : goal.split-requires-clause-begun
split-requires-clause-begun g c = λ d.
    let within = is_within g (goal.at.split-requires-clause-begun g c).After-index_from-index in
    let same = ap (λ (t : Span). t.first) (get_or_default c.args.spans.now.items c.index_from-index.result d c.index-span.result.now within ∙ sym c.index-span.ensures) in
    let begun = found_begun c.args.spans.now.items c.args.round c.index_from-index.result c.requires.merged c.index_from-index.ensures c.requires.covered d in
    omega (arith, same, begun, c.if-span-round.false)

pub split-requires-clause-ends : goal.split-requires-clause-ends
split-requires-clause-ends g c = λ d.
    let within = is_within g (goal.at.split-requires-clause-ends g c).After-index_from-index in
    ap (λ (t : Span). t.last) (get_or_default c.args.spans.now.items c.index_from-index.result d c.index-span.result.now within ∙ sym c.index-span.ensures)

pub split-requires-clause-goes_on : goal.split-requires-clause-goes_on
split-requires-clause-goes_on g c =
    let here = ap (λ (t : Span). t.last) c.index-span.ensures in
    let late = found_last c.args.spans.now.items c.args.round c.index_from-index.result c.requires.merged c.index_from-index.ensures c.requires.covered c.index-span.result.now in
    omega (arith, here, late, c.if-span-round-2.false)
