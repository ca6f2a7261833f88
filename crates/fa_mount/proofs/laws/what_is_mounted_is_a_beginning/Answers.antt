use Rattle.fa_mount.proofs.Worlds.{mounted_world}
use Rattle.fa_mount.proofs.laws.what_is_mounted_is_a_beginning.Goals as goal

pub returns : goal.returns
returns g c = mounted_world g.I.Image.view g.I.Image.honest g.I.Image.made g.met.I.Image.whole g.met.I.Image.meets
