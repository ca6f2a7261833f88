use Rattle.fa_mount_scan.proofs.MountedWorlds.{is_beginning}
use Rattle.fa_mount_scan.proofs.laws.what_was_mounted_is_a_beginning.Goals as goal

pub returns : goal.returns
returns c = is_beginning
