use Rattle.fa_crash.proofs.HeaderRuns.{written_alike, written_later}
use Rattle.fa_crash.proofs.crashes.headers_of_one_epoch_are_alike.Goals as goal

pub returns-clause-alike : goal.returns-clause-alike
returns-clause-alike c first w told happenings u cells heads die other h l b t run cut e g same =
    written_alike (record {
      live = c.live_dies_are_kept.ensures;
      spares = c.spares_are_kept.ensures;
      numbers = c.numbers_are_kept.ensures;
      raises = c.a_commit_raises_the_number.ensures;
      sound = c.a_step_keeps_sound.ensures;
      geometry = c.the_geometry_is_kept.ensures;
      erases = c.only_an_erase_erases.ensures;
      stays = c.a_copy_stays_with_its_die.ensures.holds;
    }) c.a_beginning_is_sound.ensures first told b t happenings w u run cells heads cut die other h l e g same

pub returns-clause-later : goal.returns-clause-later
returns-clause-later c first w told happenings u cells heads die h b t run cut e =
    written_later (record {
      live = c.live_dies_are_kept.ensures;
      spares = c.spares_are_kept.ensures;
      numbers = c.numbers_are_kept.ensures;
      raises = c.a_commit_raises_the_number.ensures;
      sound = c.a_step_keeps_sound.ensures;
      geometry = c.the_geometry_is_kept.ensures;
      erases = c.only_an_erase_erases.ensures;
      stays = c.a_copy_stays_with_its_die.ensures.holds;
    }) c.a_beginning_is_sound.ensures first told b t happenings w u run cells heads cut die h e
