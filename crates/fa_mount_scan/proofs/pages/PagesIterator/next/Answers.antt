use Rattle.std.proofs.Common.{rules, ◌∙◌, sym, ap, arith}
use Rattle.fa_types.specs.declared.geometry.Geometry.{Geometry}
use Rattle.fa_mount_scan.proofs.PagesLeft.{page_given, page_passed}
use Rattle.fa_mount_scan.proofs.pages.PagesIterator.next.Goals as goal

pub returns-in-Some-clause-steps : goal.returns-in-Some-clause-steps
returns-in-Some-clause-steps g c =
    let at = c.loop-self.self-inside in
    let pages = ap (λ (geometry : Geometry). geometry.pages) c.geometry.ensures in
    sym c.loop-self.invariant.left ∙ page_given (g.M.Map.view at.map.now) at.next c.in-Some.version (omega arith) (sym c.in-Some.ensures)

pub returns-in-Some-clause-goes : goal.returns-in-Some-clause-goes
returns-in-Some-clause-goes g c =
    let at = c.loop-self.self-inside in
    let pages = ap (λ (geometry : Geometry). geometry.pages) c.geometry.ensures in
    let steps = sym c.loop-self.invariant.left ∙ page_given (g.M.Map.view at.map.now) at.next c.in-Some.version (omega arith) (sym c.in-Some.ensures) in
    search rules

pub loop-self-preserved : goal.loop-self-preserved
loop-self-preserved g c =
    let at = c.loop-self.self-inside in
    let pages = ap (λ (geometry : Geometry). geometry.pages) c.geometry.ensures in
    record {
      within = omega arith;
      left = sym (page_passed (g.M.Map.view at.map.now) at.next (omega arith) (sym c.in_default.ensures)) ∙ c.loop-self.invariant.left;
    }
