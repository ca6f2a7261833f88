use Rattle.fa_mount_close_laws.proofs.Kept.{run_kept}
use Rattle.fa_mount_close_laws.proofs.Refused.{refused_for_images}
use Rattle.fa_mount_close_laws.proofs.closing.a_closed_array_is_refused_for_its_images_alone.Goals as goal

pub returns : goal.returns
returns g c first w happenings array dies before after these later mask copies refusal begins last run was of holds fair refuses =
    refused_for_images g.I.Image.view g.I.Image.honest g.I.Image.made g.met.I.Image.meets w
    (run_kept c.a_beginning_is_sound.ensures c.a_step_keeps_sound.ensures first w happenings begins last run)
    array dies before after mask was these of copies holds later fair _ refusal refuses
