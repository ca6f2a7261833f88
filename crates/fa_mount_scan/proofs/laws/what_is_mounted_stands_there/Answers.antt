use Rattle.fa_mount_scan.proofs.HonestSlots.{mounted_there}
use Rattle.fa_mount_scan.proofs.laws.what_is_mounted_stands_there.Goals as goal

pub returns : goal.returns
returns g c = mounted_there g.I.Image.view g.I.Image.honest g.I.Image.made g.met.I.Image.meets
