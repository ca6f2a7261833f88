use Rattle.fa_crash.proofs.Masked.{clean_unwritten}
use Rattle.fa_crash.proofs.headers.a_clean_mount_is_of_the_last_close.Goals as goal

pub returns : goal.returns
returns c first w told happenings u cells heads seen dies die slot b t run cut left clean low inside =
    c.what_has_its_mark_is_as_it_was_mounted.ensures first w told happenings u cells heads die slot b t run cut
    (clean_unwritten first told heads seen left dies clean die low inside)
