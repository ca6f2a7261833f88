-- The numbers of an array.
use Rattle.std.specs.Prelude.{◌≡◌, ℕ, Bool, true, false, List, is_some, count_by}
use Rattle.std.specs.FinMap.{get, len}
use Rattle.fa_machine.specs.Maps.{below}
use Rattle.fa_machine.specs.Placement.{is_thin}
use Rattle.fa_machine.specs.State.{MapState}
use Rattle.fa_mount_headers.specs.declared.judging.Standing.{Standing}
use Rattle.fa_mount_headers.specs.declared.judging.Standing.TheVariants.{Spare}
use Rattle.fa_mount_scan.specs.declared.mounted.Report.{Report}

abbrev pub is_spare : Standing → Bool
is_spare (Spare index) = true
is_spare standing = false

abbrev pub is_written : MapState → ℕ → Bool
is_written m page = is_some (get m.versions page)

pub record IsReportOf (copies : ℕ) (m : MapState) (standings : List Standing) (report : Report) : Type 0 where
  pub dies : report.dies ≡ m.geometry.dies
  pub live : report.live ≡ len m.live
  pub spares : report.spares ≡ count_by is_spare standings
  pub written : report.written ≡ count_by (is_written m) (below m.geometry.pages)
  pub thin : report.thin ≡ count_by (is_thin copies m) (below m.geometry.pages)
