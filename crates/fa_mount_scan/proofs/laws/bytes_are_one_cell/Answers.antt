use Rattle.fa_mount_scan.proofs.Cells.{one_cell}
use Rattle.fa_mount_scan.proofs.laws.bytes_are_one_cell.Goals as goal

pub returns : goal.returns
returns c = one_cell
