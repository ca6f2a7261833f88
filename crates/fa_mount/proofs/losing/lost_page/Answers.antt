use Rattle.std.proofs.Common.{ap, arith, below_more, sym, ◌∙◌}
use Rattle.fa_core.specs.Array.{state_of}
use Rattle.fa_map_calls.proofs.Ranges.{find_none, find_some}
use Rattle.fa_mount.specs.Closing.{is_lost_in}
use Rattle.fa_types.specs.declared.geometry.Geometry.{Geometry}
use Rattle.fa_mount.proofs.losing.lost_page.Goals as goal

pub returns-then-is_lost : goal.returns-then-is_lost
returns-then-is_lost g c =
    let m = (state_of g.M.Map.view c.args.array.now).page_map in
    sym (find_some (is_lost_in m c.args.mask) 0 m.geometry.pages c.loop-page.page (omega arith)
    (omega (arith, c.loop-page-test.true, ap (λ (x : Geometry). x.pages) c.geometry-page-end.ensures))
    (sym c.is_lost.ensures ∙ c.if-is_lost.true) (λ k low below. c.loop-page.invariant k below))

pub loop-page-preserved : goal.loop-page-preserved
loop-page-preserved g c = below_more _ _ c.loop-page.invariant (sym c.is_lost.ensures ∙ c.if-is_lost.false)

pub returns : goal.returns
returns g c =
    let m = (state_of g.M.Map.view c.args.array.now).page_map in
    sym (find_none (is_lost_in m c.args.mask) 0 m.geometry.pages (λ k low below. c.loop-page.invariant k
    (omega (arith, c.loop-page-test.false, below, ap (λ (x : Geometry). x.pages) c.geometry-page-end.ensures))))
