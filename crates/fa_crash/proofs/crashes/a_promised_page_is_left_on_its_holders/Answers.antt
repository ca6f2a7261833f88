use Rattle.fa_crash.proofs.Outlasting.{are_reserved, left_on}
use Rattle.fa_crash.proofs.crashes.a_promised_page_is_left_on_its_holders.Goals as goal

pub returns-clause-left : goal.returns-clause-left
returns-clause-left c first w u page number die cells heads promised cut holds =
    left_on (record {
      live = c.live_dies_are_kept.ensures;
      spares = c.spares_are_kept.ensures;
      numbers = c.numbers_are_kept.ensures;
      raises = c.a_commit_raises_the_number.ensures;
      sound = c.a_step_keeps_sound.ensures;
      geometry = c.the_geometry_is_kept.ensures;
      erases = c.only_an_erase_erases.ensures;
      stays = c.a_copy_stays_with_its_die.ensures.holds;
    }) (record { synced = c.synced_rises_by_a_sync.ensures; jobs = c.a_sync_is_of_its_take.ensures; flushes = c.flushes_are_counted.ensures })
    c.no_older_sync_answers_a_flush.ensures c.the_last_number_never_falls.ensures c.a_beginning_is_sound.ensures first w u page number promised cells heads cut die holds

pub returns-clause-bytes : goal.returns-clause-bytes
returns-clause-bytes c first w u page number cells heads promised cut =
    are_reserved (record {
      live = c.live_dies_are_kept.ensures;
      spares = c.spares_are_kept.ensures;
      numbers = c.numbers_are_kept.ensures;
      raises = c.a_commit_raises_the_number.ensures;
      sound = c.a_step_keeps_sound.ensures;
      geometry = c.the_geometry_is_kept.ensures;
      erases = c.only_an_erase_erases.ensures;
      stays = c.a_copy_stays_with_its_die.ensures.holds;
    }) (record { synced = c.synced_rises_by_a_sync.ensures; jobs = c.a_sync_is_of_its_take.ensures; flushes = c.flushes_are_counted.ensures })
    c.no_older_sync_answers_a_flush.ensures c.the_last_number_never_falls.ensures c.a_beginning_is_sound.ensures first w u page number promised cells heads cut
