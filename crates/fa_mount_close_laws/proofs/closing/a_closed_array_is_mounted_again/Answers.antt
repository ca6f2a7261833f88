use Rattle.fa_mount_close_laws.proofs.Again.{mounted_again}
use Rattle.fa_mount_close_laws.proofs.Kept.{open_nothing, run_kept}
use Rattle.fa_mount_close_laws.proofs.Marked.{was_clean}
use Rattle.fa_mount_close_laws.proofs.closing.a_closed_array_is_mounted_again.Goals as goal

pub returns : goal.returns
returns g c first w happenings array dies before after these later mask copies number stands core begins last run was of mounts many fair_then fair =
    let kept = run_kept c.a_beginning_is_sound.ensures c.a_step_keeps_sound.ensures first w happenings begins last run in
    let idle = (was_clean g.I.Image.view g.I.Image.honest g.I.Image.made g.met.I.Image.meets w array dies before after mask was).0 in
    mounted_again g.I.Image.view g.I.Image.honest g.I.Image.made g.met.I.Image.whole g.met.I.Image.meets w kept (open_nothing w kept idle)
    array dies before after mask was these of copies later number stands core mounts many fair_then fair
