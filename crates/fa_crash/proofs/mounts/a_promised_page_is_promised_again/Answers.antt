use Rattle.fa_crash.proofs.Outlasting.{promised_run}
use Rattle.fa_crash.proofs.mounts.a_promised_page_is_promised_again.Goals as goal

pub returns : goal.returns
returns c first w next last u v page number die cells heads bytes is_spare happenings promised cut is b left holders holds alive run =
    let led = promised_run first page number w u promised in
    let again = c.what_is_mounted_is_such_a_beginning_again.ensures.last first w next led.0 u cells heads bytes is_spare promised.beginning promised.cells led.1
    cut is left holders in
    let out = c.a_promised_page_outlasts_a_crash.ensures first w u page number die cells heads bytes is_spare next.core.page_map promised cut
    (record { holds = is.holds; are_left = left }) holds alive in
    (out.version, out.newer, c.what_is_mounted_is_promised.ensures next last happenings v page out.version b again out.is run)
