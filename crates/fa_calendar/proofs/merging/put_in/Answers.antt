use Rattle.std.proofs.Common.{sym, ap, subst, arith}
use Rattle.std.proofs.lemmas.List.{get_or_default}
use Rattle.fa_closed.specs.declared.spans.Span.{Span}
use Rattle.fa_closed.specs.Runs.{IsIndexFrom}
use Rattle.fa_calendar.specs.Merging.{AddsRun}
use Rattle.fa_calendar.proofs.Merged.{adds_apart, adds_past, merged_rising}
use Rattle.fa_calendar.proofs.merging.put_in.Goals as goal
use Rattle.fa_calendar.proofs.merging.put_in.Goals.{else-index-len-via-then-index-len+else-saturating_sub-le1, else-index-len-via-else-index-len}

pub index_from-index-requires : goal.index_from-index-requires
index_from-index-requires g c = merged_rising c.args.spans.now.items c.requires.merged

pub join-requires-clause-at : goal.join-requires-clause-at
join-requires-clause-at g c = subst (λ k. IsIndexFrom c.args.spans.now.items k c.index_from-index.result) c.saturating_sub.ensures c.index_from-index.ensures

pub join-requires-clause-near : goal.join-requires-clause-near
join-requires-clause-near g c = λ d.
    let size = c.args.spans.now.ok in
    let first = ap (λ (t : Span). t.first) c.index.ensures in
    let same = ap (λ (t : Span). t.first) (get_or_default c.args.spans.now.items c.index_from-index.result d c.index.result.now (omega (arith, size.0, c.len.ensures, c.if-index-len.true))) in
    omega (arith, first, same, c.saturating_sub-then-index-len.ensures, c.if-saturating_sub-le1.true)

pub returns-clause-ok : goal.returns-clause-ok
returns-clause-ok g c =
    let size = c.args.spans.now.ok in
    let at = subst (λ k. IsIndexFrom c.args.spans.now.items k c.index_from-index.result) c.saturating_sub.ensures c.index_from-index.ensures in
    subst (λ v. AddsRun c.args.spans.now.items c.args.first c.args.last v) (sym c.in_ok-insert.ensures.items)
    (elim c.else-index-len.branch [
      | else-index-len-via-then-index-len+else-saturating_sub-le1 w ↦
          adds_apart c.args.spans.now.items c.index_from-index.result c.args.first c.args.last c.requires.merged c.requires.proper c.requires.free at
          w.index.result.now (omega (arith, size.0, c.len.ensures, w.if-index-len.true)) w.index.ensures (omega (arith, w.saturating_sub-then-index-len.ensures, w.if-saturating_sub-le1.false))
      | else-index-len-via-else-index-len w ↦
          adds_past c.args.spans.now.items c.index_from-index.result c.args.first c.args.last c.requires.merged c.requires.proper c.requires.free at
          (omega (arith, size.0, c.len.ensures, w.if-index-len.false))
    ])
