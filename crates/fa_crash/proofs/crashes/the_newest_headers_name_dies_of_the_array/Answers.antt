use Rattle.fa_crash.proofs.HeaderRuns.{holder_live, live_ours, newest_again, newest_ours}
use Rattle.fa_crash.proofs.crashes.the_newest_headers_name_dies_of_the_array.Goals as goal
use Rattle.std.proofs.Common.{inl, refl}

pub returns-clause-ours : goal.returns-clause-ours
returns-clause-ours c first w told happenings u cells heads top die b t ours run cut newest named =
    newest_ours (record {
      live = c.live_dies_are_kept.ensures;
      spares = c.spares_are_kept.ensures;
      numbers = c.numbers_are_kept.ensures;
      raises = c.a_commit_raises_the_number.ensures;
      sound = c.a_step_keeps_sound.ensures;
      geometry = c.the_geometry_is_kept.ensures;
      erases = c.only_an_erase_erases.ensures;
      stays = c.a_copy_stays_with_its_die.ensures.holds;
    }) c.a_beginning_is_sound.ensures first told b t happenings w u run cells heads cut ours top die newest named

pub returns-clause-again : goal.returns-clause-again
returns-clause-again c first w next told happenings u cells heads b t alike run cut again there =
    newest_again (record {
      live = c.live_dies_are_kept.ensures;
      spares = c.spares_are_kept.ensures;
      numbers = c.numbers_are_kept.ensures;
      raises = c.a_commit_raises_the_number.ensures;
      sound = c.a_step_keeps_sound.ensures;
      geometry = c.the_geometry_is_kept.ensures;
      erases = c.only_an_erase_erases.ensures;
      stays = c.a_copy_stays_with_its_die.ensures.holds;
    }) c.a_beginning_is_sound.ensures first told b t happenings w u run cells heads cut alike next again there

pub returns-clause-live : goal.returns-clause-live
returns-clause-live c first w told happenings u die b t run alive =
    live_ours (record {
      live = c.live_dies_are_kept.ensures;
      spares = c.spares_are_kept.ensures;
      numbers = c.numbers_are_kept.ensures;
      raises = c.a_commit_raises_the_number.ensures;
      sound = c.a_step_keeps_sound.ensures;
      geometry = c.the_geometry_is_kept.ensures;
      erases = c.only_an_erase_erases.ensures;
      stays = c.a_copy_stays_with_its_die.ensures.holds;
    }) c.a_beginning_is_sound.ensures first told b t happenings w u run (λ d slot. (w.images d).seen slot) (λ d. (w.images d).header)
    (record { slots = λ d slot. inl refl; headers = λ d. inl refl }) die alive

pub returns-clause-holders : goal.returns-clause-holders
returns-clause-holders c first w told happenings u page die b t run holds =
    holder_live (record {
      live = c.live_dies_are_kept.ensures;
      spares = c.spares_are_kept.ensures;
      numbers = c.numbers_are_kept.ensures;
      raises = c.a_commit_raises_the_number.ensures;
      sound = c.a_step_keeps_sound.ensures;
      geometry = c.the_geometry_is_kept.ensures;
      erases = c.only_an_erase_erases.ensures;
      stays = c.a_copy_stays_with_its_die.ensures.holds;
    }) c.a_beginning_is_sound.ensures first told b t happenings w u run (λ d slot. (w.images d).seen slot) (λ d. (w.images d).header)
    (record { slots = λ d slot. inl refl; headers = λ d. inl refl }) page die holds
