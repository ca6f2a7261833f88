use Rattle.std.proofs.Common.{◌≡◌, ◌++◌, map}
use Rattle.fa_mount_scan.specs.Pages.{written_pages}
use Rattle.fa_prog_images.specs.Documents.{written_of}
use Rattle.fa_prog_images.proofs.document.page_rows.Given as goal

-- the rows so far, and the pages that are left, are all pages that were written
abbrev pub invariant-loop-page : goal.invariant-loop-page
invariant-loop-page g l = map written_of l.rows.items ++ l.page-iterator ≡ written_pages (g.M.Map.view l.mounted.map)
