use Rattle.fa_crash.proofs.HeaderRuns.{mounted_live, names_holder}
use Rattle.fa_crash.proofs.crashes.a_header_names_the_holders.Goals as goal

pub returns-clause-names : goal.returns-clause-names
returns-clause-names c first w told happenings u cells heads page die other b t run cut holds less =
    names_holder (record {
      live = c.live_dies_are_kept.ensures;
      spares = c.spares_are_kept.ensures;
      numbers = c.numbers_are_kept.ensures;
      raises = c.a_commit_raises_the_number.ensures;
      sound = c.a_step_keeps_sound.ensures;
      geometry = c.the_geometry_is_kept.ensures;
      erases = c.only_an_erase_erases.ensures;
      stays = c.a_copy_stays_with_its_die.ensures.holds;
    }) c.a_beginning_is_sound.ensures first told b t happenings w u run cells heads cut page die other holds less

pub returns-clause-mounted : goal.returns-clause-mounted
returns-clause-mounted c first w told happenings u cells heads page die b t run cut holds none =
    mounted_live (record {
      live = c.live_dies_are_kept.ensures;
      spares = c.spares_are_kept.ensures;
      numbers = c.numbers_are_kept.ensures;
      raises = c.a_commit_raises_the_number.ensures;
      sound = c.a_step_keeps_sound.ensures;
      geometry = c.the_geometry_is_kept.ensures;
      erases = c.only_an_erase_erases.ensures;
      stays = c.a_copy_stays_with_its_die.ensures.holds;
    }) c.a_beginning_is_sound.ensures first told b t happenings w u run cells heads cut page die holds none
