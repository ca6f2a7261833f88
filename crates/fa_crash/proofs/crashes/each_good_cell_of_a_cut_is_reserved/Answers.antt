use Rattle.fa_crash.proofs.Outlasting.{good_reserved}
use Rattle.fa_crash.proofs.crashes.each_good_cell_of_a_cut_is_reserved.Goals as goal

pub returns : goal.returns
returns c first w happenings u page cells heads b last run inside cut =
    good_reserved (record {
      live = c.live_dies_are_kept.ensures;
      spares = c.spares_are_kept.ensures;
      numbers = c.numbers_are_kept.ensures;
      raises = c.a_commit_raises_the_number.ensures;
      sound = c.a_step_keeps_sound.ensures;
      geometry = c.the_geometry_is_kept.ensures;
      erases = c.only_an_erase_erases.ensures;
      stays = c.a_copy_stays_with_its_die.ensures.holds;
    }) (record { synced = c.synced_rises_by_a_sync.ensures; jobs = c.a_sync_is_of_its_take.ensures; flushes = c.flushes_are_counted.ensures })
    c.no_older_sync_answers_a_flush.ensures c.the_last_number_never_falls.ensures c.a_beginning_is_sound.ensures first w happenings u page b last run inside cells heads cut
