use Rattle.std.proofs.Common.{◌≡◌}
use Rattle.std.specs.Prelude.{count_by}
use Rattle.fa_machine.specs.Maps.{below}
use Rattle.fa_mount_scan.specs.Reported.{is_written}
use Rattle.fa_mount_scan.proofs.mounted.written_pages.Given as goal

abbrev pub invariant-loop-page : goal.invariant-loop-page
invariant-loop-page g l = l.written ≡ count_by (is_written (g.M.Map.view l.map)) (below l.page)
