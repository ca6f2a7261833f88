use Rattle.fa_crash.proofs.HeaderRuns.{as_mounted}
use Rattle.fa_crash.proofs.crashes.what_has_its_mark_is_as_it_was_mounted.Goals as goal

pub returns : goal.returns
returns c first w told happenings u cells heads die slot b t run cut none =
    as_mounted (record {
      live = c.live_dies_are_kept.ensures;
      spares = c.spares_are_kept.ensures;
      numbers = c.numbers_are_kept.ensures;
      raises = c.a_commit_raises_the_number.ensures;
      sound = c.a_step_keeps_sound.ensures;
      geometry = c.the_geometry_is_kept.ensures;
      erases = c.only_an_erase_erases.ensures;
      stays = c.a_copy_stays_with_its_die.ensures.holds;
    }) c.a_beginning_is_sound.ensures first told b t happenings w u run cells heads cut die slot none
