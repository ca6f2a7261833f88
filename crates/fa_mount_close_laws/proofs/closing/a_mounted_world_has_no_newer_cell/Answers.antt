use Rattle.fa_mount_close_laws.proofs.Beginnings.{mounted_of_last}
use Rattle.fa_mount_close_laws.proofs.closing.a_mounted_world_has_no_newer_cell.Goals as goal

pub returns : goal.returns
returns c = mounted_of_last
