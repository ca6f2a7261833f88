use Rattle.std.proofs.Common.{◌≡◌, ◌-◌, ◌<◌, length, arith, sym, ap, ◌∙◌, subst, get_or}
use Rattle.std.proofs.lemmas.List.{get_or_default}
use Rattle.fa_closed.specs.declared.spans.Span.{Span}
use Rattle.fa_closed.specs.Runs.{AreRising}
use Rattle.fa_closed.proofs.Covered.{longer_rising, longer_covers, rising_push, all_below}
use Rattle.fa_closed.proofs.spans.add_span.Goals as goal
use Rattle.fa_closed.proofs.spans.add_span.Goals.{then-len-gt0+else-first-saturating_add, else-len-gt0}

pub returns-then-first-saturating_add-clause-covered : goal.returns-then-first-saturating_add-clause-covered
returns-then-first-saturating_add-clause-covered g c =
    let size = c.args.spans.now.ok in
    longer_covers c.args.spans.now.items (c.len-len.result - 1) c.index-old.result.now c.args.first c.args.last c.max.result (omega (arith, size.0, c.len-len.ensures))
    (omega (arith, size.0, c.len-len.ensures)) c.index-old.ensures c.requires.rising c.requires.later (omega (arith, c.saturating_add.ensures, c.if-first-saturating_add.true)) c.max.ensures

pub returns-then-first-saturating_add-clause-rising : goal.returns-then-first-saturating_add-clause-rising
returns-then-first-saturating_add-clause-rising g c =
    let size = c.args.spans.now.ok in
    longer_rising c.args.spans.now.items (c.len-len.result - 1) c.index-old.result.now c.args.first c.args.last c.max.result (omega (arith, size.0, c.len-len.ensures))
    (omega (arith, size.0, c.len-len.ensures)) c.index-old.ensures c.requires.rising c.requires.later (omega (arith, c.saturating_add.ensures, c.if-first-saturating_add.true)) c.max.ensures

pub returns-clause-rising : goal.returns-clause-rising
returns-clause-rising g c =
    let d : Span = record { first = 0; last = 0 } in
    let size = c.args.spans.now.ok in
    let ends : 0 < length c.args.spans.now.items → (get_or c.args.spans.now.items (length c.args.spans.now.items - 1) d).last < c.args.first =
    λ some. elim c.if-len-gt0.branch [
      | then-len-gt0+else-first-saturating_add w ↦
          (let end : c.len-len.result - 1 ≡ length c.args.spans.now.items - 1 = omega (arith, size.0, c.len-len.ensures) in
          let same = ap (λ (v : Span). v.last) (sym (ap (λ k. get_or c.args.spans.now.items k d) (sym end) ∙ get_or_default c.args.spans.now.items (c.len-len.result - 1) d w.index-old.result.now (omega (arith, some, end)) ∙ sym w.index-old.ensures)) in
          omega (arith, same, w.saturating_add.ensures, w.if-first-saturating_add.false, c.ranges.first.fits))
      | else-len-gt0 w ↦ absurd (omega (arith, size.0, c.len-len.ensures))
    ] in
    subst AreRising (sym c.in_ok-push_back.ensures.items) (rising_push c.args.spans.now.items (record { first = c.args.first; last = c.args.last }) c.requires.rising (all_below c.args.spans.now.items d c.args.first c.requires.rising ends) c.requires.proper)
