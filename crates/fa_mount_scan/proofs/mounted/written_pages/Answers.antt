use Rattle.std.proofs.Common.{◌∙◌, Option, ap, arith}
use Rattle.std.specs.Prelude.{is_some}
use Rattle.fa_machine.specs.declared.places.Version.{Version}
use Rattle.fa_mount_scan.specs.Reported.{is_written}
use Rattle.fa_mount_scan.proofs.Tallying.{at_most_one, counted_fits, one_more_page}
use Rattle.fa_mount_scan.proofs.mounted.written_pages.Goals as goal

pub overflow_add-written : goal.overflow_add-written
overflow_add-written g c =
    let some = counted_fits (is_written (g.M.Map.view c.args.map.now)) c.loop-page.page c.loop-page.written c.loop-page.invariant in
    let one = at_most_one c.one_if-written.result c.is_some.result c.one_if-written.ensures in
    let few = c.geometry-page-end.result.within.pages_fit.most in
    let below = c.loop-page-test.true in
    omega (arith, some, one, few, below)

pub loop-page-preserved : goal.loop-page-preserved
loop-page-preserved g c =
    one_more_page (is_written (g.M.Map.view c.args.map.now)) c.loop-page.page c.loop-page.written c.one_if-written.result c.is_some.result c.loop-page.invariant c.one_if-written.ensures (c.is_some.ensures ∙ ap (λ (o : Option Version). is_some o) c.version.ensures)
