use Rattle.std.proofs.Common.{nat_le, arith, sym, ◌∙◌, ap}
use Rattle.std.proofs.lemmas.Bool.{le-ltb}
use Rattle.fa_closed.specs.declared.spans.Span.{Span}
use Rattle.fa_closed.proofs.Covered.{covered_from, covered_past}
use Rattle.fa_closed.proofs.spans.covers.Goals as goal

pub returns-then-index-len : goal.returns-then-index-len
returns-then-index-len g c =
    let size = c.args.spans.now.ok in
    sym (covered_from c.args.spans.now.items c.args.round c.index_from-index.result c.index.result.now c.requires c.index_from-index.ensures (omega (arith, size.0, c.if-index-len.true, c.len.ensures))
    ∙ ap (λ (s : Span). nat_le s.first c.args.round) (sym c.index.ensures))

pub returns-else-index-len : goal.returns-else-index-len
returns-else-index-len g c =
    let size = c.args.spans.now.ok in
    le-ltb _ _ c.if-index-len.false ∙ sym (covered_past c.args.spans.now.items c.args.round c.index_from-index.result c.requires c.index_from-index.ensures (omega (arith, size.0, c.if-index-len.false, c.len.ensures)))
