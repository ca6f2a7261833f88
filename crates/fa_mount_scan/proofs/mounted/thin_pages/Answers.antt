use Rattle.std.proofs.Common.{arith}
use Rattle.fa_machine.specs.Placement.{is_thin}
use Rattle.fa_mount_scan.proofs.Tallying.{at_most_one, counted_fits, one_more_page}
use Rattle.fa_mount_scan.proofs.mounted.thin_pages.Goals as goal

pub overflow_add-thin : goal.overflow_add-thin
overflow_add-thin g c =
    let some = counted_fits (is_thin c.args.copies.number (g.M.Map.view c.args.map.now)) c.loop-page.page c.loop-page.thin c.loop-page.invariant in
    let one = at_most_one c.one_if-thin.result c.is_thin.result c.one_if-thin.ensures in
    let few = c.geometry-page-end.result.within.pages_fit.most in
    let below = c.loop-page-test.true in
    omega (arith, some, one, few, below)

pub loop-page-preserved : goal.loop-page-preserved
loop-page-preserved g c =
    one_more_page (is_thin c.args.copies.number (g.M.Map.view c.args.map.now)) c.loop-page.page c.loop-page.thin c.one_if-thin.result c.is_thin.result c.loop-page.invariant c.one_if-thin.ensures c.is_thin.ensures
