use Rattle.fa_mount_close_laws.proofs.DrivenRuns.{drives_run}
use Rattle.fa_mount_close_laws.proofs.runs.what_drives_an_array_is_a_run.Goals as goal

pub returns : goal.returns
returns g c first array images =
    drives_run g.I.Image.view g.I.Image.honest g.I.Image.made g.met.I.Image.whole g.met.I.Image.meets array
    c.the_geometry_is_kept.ensures first images
