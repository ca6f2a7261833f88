use Rattle.std.proofs.Common.{◌≡◌, sym, ap, subst, ◌∙◌, arith}
use Rattle.std.specs.Prelude.{OnSome}
use Rattle.std.specs.List.{remove}
use Rattle.fa_closed.specs.declared.spans.Span.{Span}
use Rattle.fa_calendar.specs.Merging.{DropsRound}
use Rattle.fa_closed.proofs.Covered.{rising_at}
use Rattle.fa_calendar.proofs.Merged.{drops_only, drops_first, merged_rising}
use Rattle.fa_calendar.proofs.merging.trim.Goals as goal

pub returns-then-span-round-clause-gone : goal.returns-then-span-round-clause-gone
returns-then-span-round-clause-gone g c =
    let s : Span = c.index-span.result.now in
    let size = c.args.spans.now.ok in
    let here = ap (λ (t : Span). t.first) c.index-span.ensures in
    let same = subst (λ r. OnSome r (c.remove.new.self.items ≡ remove c.args.spans.now.items c.args.index)) (c.remove.ensures.succeeds s (omega (arith, size.0))) c.remove.ensures.items in
    subst (λ v. DropsRound c.args.spans.now.items c.args.round v) (sym same)
    (drops_only c.args.spans.now.items c.args.index s c.requires.merged c.requires.within c.index-span.ensures c.args.round (here ∙ c.requires.begins s) c.if-span-round.true)

pub overflow_add-round : goal.overflow_add-round
overflow_add-round g c =
    let s : Span = c.index-span.result.now in
    let here = ap (λ (t : Span). t.first) c.index-span.ensures in
    let proper = rising_at c.args.spans.now.items c.args.index s (merged_rising c.args.spans.now.items c.requires.merged) c.requires.within in
    let last = ap (λ (t : Span). t.last) c.index-span.ensures in
    let begins = c.requires.begins s in
    omega (arith, here, proper, last, begins)

pub returns-clause-gone : goal.returns-clause-gone
returns-clause-gone g c =
    let s : Span = c.index-span.result.now in
    let here = ap (λ (t : Span). t.first) c.index-span.ensures in
    let proper = rising_at c.args.spans.now.items c.args.index s (merged_rising c.args.spans.now.items c.requires.merged) c.requires.within in
    let last = ap (λ (t : Span). t.last) c.index-span.ensures in
    let begins = c.requires.begins s in
    drops_first c.args.spans.now.items c.args.index s c.requires.merged c.requires.within c.index-span.ensures c.args.round (here ∙ begins) (omega (arith, here, last, begins, proper, c.if-span-round.false))
