use Rattle.fa_mount_close_laws.proofs.AnyCell.{any_cell}
use Rattle.fa_mount_close_laws.proofs.runs.any_bytes_are_a_cell.Goals as goal

pub returns : goal.returns
returns c = any_cell
