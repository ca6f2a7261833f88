use Rattle.fa_mount_scan.proofs.OneMap.{one_map}
use Rattle.fa_mount_scan.proofs.laws.what_was_found_is_one_map.Goals as goal

pub returns : goal.returns
returns c = one_map
