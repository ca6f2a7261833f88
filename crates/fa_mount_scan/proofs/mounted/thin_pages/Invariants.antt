use Rattle.std.proofs.Common.{◌≡◌}
use Rattle.std.specs.Prelude.{count_by}
use Rattle.fa_machine.specs.Maps.{below}
use Rattle.fa_machine.specs.Placement.{is_thin}
use Rattle.fa_mount_scan.proofs.mounted.thin_pages.Given as goal

abbrev pub invariant-loop-page : goal.invariant-loop-page
invariant-loop-page g l = l.thin ≡ count_by (is_thin l.copies.number (g.M.Map.view l.map)) (below l.page)
