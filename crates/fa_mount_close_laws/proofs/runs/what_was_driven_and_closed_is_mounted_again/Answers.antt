use Rattle.fa_mount_close_laws.specs.Mounted.{LastCopiesAgree}
use Rattle.fa_machine.specs.State.{Core}
use Rattle.fa_mount_close_laws.proofs.ClosedAgain.{was_closed}
use Rattle.fa_mount_close_laws.proofs.MountedImages.{mounted_runs}
use Rattle.fa_mount_close_laws.proofs.runs.what_was_driven_and_closed_is_mounted_again.Goals as goal
use Rattle.fa_mount_scan.specs.MountedWorld.{bytes_of, is_spare_of}
use Rattle.std.proofs.Common.{map, subst, sym}

pub returns : goal.returns
returns g c copies unclean before after array dies core drives last closing closed these later mask again number stands next is many agree newest fair goes fair_last closes of mounts long fair_then fair_again =
    let bytes = bytes_of (map g.I.Image.view after) dies in
    let led = mounted_runs g.I.Image.view g.I.Image.honest g.I.Image.made g.met.I.Image.whole g.met.I.Image.meets
    copies unclean before after array dies core is many c.the_geometry_is_kept.ensures drives last agree fair goes fair_last in
    let first = led.0 in
    let happenings = led.1 in
    let w = led.2 in
    let newer = c.a_mounted_world_has_no_newer_cell.ensures bytes (is_spare_of dies) first led.4
    (subst (λ (x : Core). LastCopiesAgree bytes x.page_map) (sym led.3) newest) in
    let was = was_closed g.I.Image.view g.I.Image.made w last array dies closing closed mask led.8 led.9 closes in
    let back = c.a_closed_array_is_mounted_again.ensures first w happenings array dies closing closed these later mask again number stands next
    led.5 newer led.6 was of mounts long fair_then fair_again in
    (first, happenings, w, back.0, led.3, led.5, led.6, led.7, led.8, back.1, back.2, back.3, back.5)
