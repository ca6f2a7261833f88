use Rattle.fa_mount_close_laws.proofs.Kept.{open_nothing, run_kept}
use Rattle.fa_mount_close_laws.proofs.Mounting.{agree_again, current_again, same_number, same_plain}
use Rattle.fa_mount_close_laws.proofs.closing.what_stands_on_the_dies_is_mounted.Goals as goal

pub returns : goal.returns
returns c =
    let begins = c.a_beginning_is_sound.ensures in
    let steps = c.a_step_keeps_sound.ensures in
    record {
      numbers = λ first w happenings these bytes is_spare m page b last run idle all cells shape hold lives.
          let kept = run_kept begins steps first w happenings b last run in
          same_number w kept (open_nothing w kept idle) these all bytes is_spare m shape hold lives cells page;
      agree = λ first w happenings these bytes is_spare m b last run idle all cells shape hold lives.
          let kept = run_kept begins steps first w happenings b last run in (
            current_again w kept (open_nothing w kept idle) these all bytes is_spare m shape hold lives cells,
            agree_again w kept (open_nothing w kept idle) these all bytes is_spare m shape hold lives cells,
          );
      plain = λ first w v happenings these bytes is_spare b last run idle all cells shape is lives.
          let kept = run_kept begins steps first w happenings b last run in
          same_plain w kept (open_nothing w kept idle) these all bytes is_spare v shape lives cells is;
    }
