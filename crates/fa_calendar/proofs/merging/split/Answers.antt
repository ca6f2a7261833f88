use Rattle.std.proofs.Common.{suc, ◌+◌, ◌-◌, ◌++◌, ◌∷◌, take, drop, sym, ap, subst, ◌∙◌, arith}
use Rattle.fa_closed.specs.declared.spans.Span.{Span}
use Rattle.fa_calendar.specs.Merging.{DropsRound}
use Rattle.fa_calendar.proofs.Merged.{drops_inside, split_is, long_inside, on_err_anyway}
use Rattle.fa_calendar.proofs.merging.split.Goals as goal

pub returns-in_err-insert-clause-inside : goal.returns-in_err-insert-clause-inside
returns-in_err-insert-clause-inside g c =
    let s : Span = c.index.result.now in
    let size = c.args.spans.now.ok in
    let first = ap (λ (t : Span). t.first) c.index.ensures in
    let last = ap (λ (t : Span). t.last) c.index.ensures in
    let begun = c.requires.begun s in
    let ends = c.requires.ends s in
    let goes_on = c.requires.goes_on in
    let long = long_inside c.args.spans.now.items c.args.index s c.requires.merged c.requires.within c.index.ensures (omega (arith, first, last, begun, ends, goes_on)) in
    on_err_anyway c.from_residual.result (omega (arith, size.0, long))

pub returns-clause-ok : goal.returns-clause-ok
returns-clause-ok g c =
    let s : Span = c.index.result.now in
    let first = ap (λ (t : Span). t.first) c.index.ensures in
    let last = ap (λ (t : Span). t.last) c.index.ensures ∙ c.requires.ends s in
    let begun = c.requires.begun s in
    let goes_on = c.requires.goes_on in
    let y : Span = record { first = s.first; last = c.args.round - 1 } in
    let z : Span = record { first = c.args.round + 1; last = c.args.last } in
    subst (λ v. DropsRound c.args.spans.now.items c.args.round v) (sym (split_is c.args.spans.now.items c.args.index y z c.insert.new.self.items c.requires.within c.in_ok-insert.ensures.items))
    (subst (λ k. DropsRound c.args.spans.now.items c.args.round (take c.args.index c.args.spans.now.items ++ y ∷ record { first = c.args.round + 1; last = k } ∷ drop (suc c.args.index) c.args.spans.now.items)) last
    (drops_inside c.args.spans.now.items c.args.index s c.requires.merged c.requires.within c.index.ensures c.args.round (omega (arith, first, begun)) (omega (arith, last, goes_on))))
