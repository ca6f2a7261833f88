use Rattle.fa_mount_close_laws.proofs.Kept.{open_nothing, run_kept}
use Rattle.fa_mount_close_laws.proofs.Standing.{last_on}
use Rattle.fa_mount_close_laws.proofs.closing.the_last_writes_stand_on_the_dies.Goals as goal

pub returns : goal.returns
returns c first w happenings these page begins last run idle all low =
    let kept = run_kept c.a_beginning_is_sound.ensures c.a_step_keeps_sound.ensures first w happenings begins last run in
    last_on w kept (open_nothing w kept idle) these all page low
