use Rattle.fa_crash.proofs.Mounted.{outlasted}
use Rattle.fa_crash.proofs.mounts.a_promised_page_outlasts_a_crash.Goals as goal

pub returns : goal.returns
returns c first w u page number die cells heads bytes is_spare m promised cut left holds alive =
    let laws = c.a_promised_page_is_left_on_its_holders.ensures in
    outlasted c.bytes_are_one_cell.ensures c.what_was_found_is_what_is_seen.ensures.copy first w cells bytes is_spare m left page number
    (laws.bytes first w u page number cells heads promised cut) die alive (laws.left first w u page number die cells heads promised cut holds)
