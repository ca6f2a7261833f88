use Rattle.fa_mount_close_laws.proofs.MountedImages.{mounted_runs}
use Rattle.fa_mount_close_laws.proofs.runs.what_is_mounted_and_driven_is_a_run.Goals as goal

pub returns : goal.returns
returns g c copies unclean before after array dies core drives last is many =
    mounted_runs g.I.Image.view g.I.Image.honest g.I.Image.made g.met.I.Image.whole g.met.I.Image.meets
    copies unclean before after array dies core is many c.the_geometry_is_kept.ensures drives last
