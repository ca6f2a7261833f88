use Rattle.fa_mount_close_laws.proofs.Kept.{open_nothing, run_kept}
use Rattle.fa_mount_close_laws.proofs.closing.no_newer_cell_is_left.Goals as goal

pub returns : goal.returns
returns c first w happenings begins last run idle =
    open_nothing w (run_kept c.a_beginning_is_sound.ensures c.a_step_keeps_sound.ensures first w happenings begins last run) idle
