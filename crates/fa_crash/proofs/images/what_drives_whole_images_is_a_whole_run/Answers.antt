use Rattle.fa_crash.specs.Unsynced.{nothing_unsynced}
use Rattle.fa_crash.proofs.Driven.{driven_whole, flushed}
use Rattle.fa_crash.proofs.images.what_drives_whole_images_is_a_whole_run.Goals as goal
use Rattle.fa_mount_close_laws.specs.Drives.{beginning}
use Rattle.std.proofs.Common.{refl}

pub returns-clause-run : goal.returns-clause-run
returns-clause-run g c first array images drives last begins are goes fair writes =
    let led = driven_whole g.I.Image.view g.I.Image.honest g.I.Image.made g.met.I.Image.whole g.met.I.Image.meets writes array c.the_geometry_is_kept.ensures
    drives (beginning first.core images) last first (nothing_unsynced first)
    (record { core = refl; told = begins.told; works = begins.idle; given = λ die. tt; images = are }) goes fair in
    (led.happenings, led.world, led.unsynced, led.run, led.events, led.follows.core, led.follows.images)

pub returns-clause-promised : goal.returns-clause-promised
returns-clause-promised g c first array images earlier during later at last flush begins cells are goes then fair writes =
    flushed g.I.Image.view g.I.Image.honest g.I.Image.made g.met.I.Image.whole g.met.I.Image.meets writes array c.the_geometry_is_kept.ensures first images
    begins cells are earlier during later at last flush goes then fair
