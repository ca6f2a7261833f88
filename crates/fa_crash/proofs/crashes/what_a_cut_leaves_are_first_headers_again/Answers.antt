use Rattle.fa_crash.proofs.HeaderRuns.{left_again, told_alike}
use Rattle.fa_crash.proofs.crashes.what_a_cut_leaves_are_first_headers_again.Goals as goal

pub returns-clause-first : goal.returns-clause-first
returns-clause-first c first w next told happenings u cells heads b t run cut again =
    left_again (record {
      live = c.live_dies_are_kept.ensures;
      spares = c.spares_are_kept.ensures;
      numbers = c.numbers_are_kept.ensures;
      raises = c.a_commit_raises_the_number.ensures;
      sound = c.a_step_keeps_sound.ensures;
      geometry = c.the_geometry_is_kept.ensures;
      erases = c.only_an_erase_erases.ensures;
      stays = c.a_copy_stays_with_its_die.ensures.holds;
    }) c.a_beginning_is_sound.ensures first told b t happenings w u run cells heads cut next again

pub returns-clause-alike : goal.returns-clause-alike
returns-clause-alike c first w told happenings u cells heads b t alike run cut =
    told_alike (record {
      live = c.live_dies_are_kept.ensures;
      spares = c.spares_are_kept.ensures;
      numbers = c.numbers_are_kept.ensures;
      raises = c.a_commit_raises_the_number.ensures;
      sound = c.a_step_keeps_sound.ensures;
      geometry = c.the_geometry_is_kept.ensures;
      erases = c.only_an_erase_erases.ensures;
      stays = c.a_copy_stays_with_its_die.ensures.holds;
    }) c.a_beginning_is_sound.ensures first told b t happenings w u run cells heads cut alike
