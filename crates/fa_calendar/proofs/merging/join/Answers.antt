use Rattle.std.proofs.Common.{◌≡◌, ◌+◌, ◌<◌, length, set, sym, ap, subst, arith}
use Rattle.std.specs.Prelude.{OnSome}
use Rattle.std.specs.List.{remove}
use Rattle.std.proofs.lemmas.List.{get_or_default}
use Rattle.fa_closed.specs.declared.spans.Span.{Span}
use Rattle.fa_calendar.specs.Merging.{AddsRun}
use Rattle.fa_calendar.proofs.Merged.{adds_before, adds_last, adds_touching, adds_between, removed_is}
use Rattle.fa_calendar.proofs.merging.join.Goals as goal
use Rattle.fa_calendar.proofs.merging.join.Goals.{else-next-len-via-then-next-len+else-saturating_sub-le1, else-next-len-via-else-next-len}

pub returns-then-first-span-clause-added : goal.returns-then-first-span-clause-added
returns-then-first-span-clause-added g c =
    let s : Span = c.index-span.result.now in
    let first = ap (λ (t : Span). t.first) c.index-span.ensures in
    let near = c.requires.near s in
    adds_before c.args.spans.now.items c.args.index c.args.first c.args.last c.requires.merged c.requires.proper c.requires.free c.requires.at s c.requires.within c.index-span.ensures
    c.if-first-span.true (omega (arith, first, near))

pub returns-then-saturating_sub-le1-clause-added : goal.returns-then-saturating_sub-le1-clause-added
returns-then-saturating_sub-le1-clause-added g c =
    let s : Span = c.index-span.result.now in
    let t : Span = c.index-other.result.now in
    let size = c.args.spans.now.ok in
    let more : c.args.index + 1 < length c.args.spans.now.items = omega (arith, size.0, c.len.ensures, c.if-next-len.true) in
    let first = ap (λ (t : Span). t.first) c.index.ensures in
    let other = ap (λ (t : Span). t.first) c.index-other.ensures in
    let same = ap (λ (t : Span). t.first) (get_or_default c.args.spans.now.items (c.args.index + 1) t c.index.result.now more) in
    let y : Span = record { first = s.first; last = t.last } in
    let whole = subst (λ r. OnSome r (c.remove.new.self.items ≡ remove (set c.args.spans.now.items c.args.index y) (c.args.index + 1)))
    (c.remove.ensures.succeeds s (omega (arith, size.0, more))) c.remove.ensures.items in
    subst (λ v. AddsRun c.args.spans.now.items c.args.first c.args.last v) (sym (removed_is c.args.spans.now.items c.args.index y c.remove.new.self.items c.requires.within whole))
    (adds_between c.args.spans.now.items c.args.index c.args.first c.args.last c.requires.merged c.requires.proper c.requires.free c.requires.at s c.requires.within c.index-span.ensures
    (omega (arith, c.if-first-span.false)) t more c.index-other.ensures (omega (arith, first, other, same, c.saturating_sub.ensures, c.if-saturating_sub-le1.true)))

pub returns-clause-added : goal.returns-clause-added
returns-clause-added g c =
    let s : Span = c.index-span.result.now in
    let size = c.args.spans.now.ok in
    elim c.else-next-len.branch [
      | else-next-len-via-then-next-len+else-saturating_sub-le1 w ↦
          (let more : c.args.index + 1 < length c.args.spans.now.items = omega (arith, size.0, c.len.ensures, w.if-next-len.true) in
          adds_touching c.args.spans.now.items c.args.index c.args.first c.args.last c.requires.merged c.requires.proper c.requires.free c.requires.at s c.requires.within c.index-span.ensures
          (omega (arith, c.if-first-span.false)) w.index.result.now more w.index.ensures (omega (arith, w.saturating_sub.ensures, w.if-saturating_sub-le1.false)))
      | else-next-len-via-else-next-len w ↦
          adds_last c.args.spans.now.items c.args.index c.args.first c.args.last c.requires.merged c.requires.proper c.requires.free c.requires.at s c.requires.within c.index-span.ensures
          (omega (arith, c.if-first-span.false)) (omega (arith, size.0, c.len.ensures, w.if-next-len.false))
    ]
