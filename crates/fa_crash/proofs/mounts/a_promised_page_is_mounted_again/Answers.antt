use Rattle.fa_crash.proofs.mounts.a_promised_page_is_mounted_again.Goals as goal
use Rattle.fa_mount_scan.specs.MountedWorld.{bytes_of, is_spare_of}
use Rattle.std.specs.Prelude.{map}

pub returns : goal.returns
returns g c first w u page number die cells heads copies unclean before after array epoch clean dies m promised cut mounts long honest left holds alive =
    c.a_promised_page_outlasts_a_crash.ensures first w u page number die cells heads (bytes_of (map g.I.Image.view after) dies) (is_spare_of dies) m promised cut
    (record {
      holds = c.what_is_mounted_stands_there.ensures copies unclean before after array epoch clean dies m mounts long honest;
      are_left = left;
    }) holds alive
