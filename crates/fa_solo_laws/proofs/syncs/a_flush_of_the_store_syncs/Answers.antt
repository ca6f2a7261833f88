use Rattle.fa_solo_laws.proofs.Going.{Laws}
use Rattle.fa_solo_laws.proofs.Fates.{DieLaws}
use Rattle.fa_solo_laws.proofs.Sums.{flush_counted}
use Rattle.fa_solo_laws.proofs.syncs.a_flush_of_the_store_syncs.Goals as goal
use Rattle.fa_types.specs.Store.{Done}
use Rattle.std.proofs.Common.{refl}

pub returns : goal.returns
returns g c old new task bytes w die before after of_old apart flushes call fair live alive was is =
    let asks : Laws = record {
      lives = c.live_dies_are_kept.ensures;
      spares = c.spares_are_kept.ensures;
      numbers = c.numbers_are_kept.ensures;
      geometry = c.the_geometry_is_kept.ensures;
      falls = c.the_last_number_never_falls.ensures;
    } in
    let laws : DieLaws = record {
      lives = c.live_dies_are_kept.ensures;
      spares = c.spares_are_kept.ensures;
      synced = c.synced_rises_by_a_sync.ensures;
      jobs = c.a_sync_is_of_its_take.ensures;
      flushes = c.flushes_are_counted.ensures;
    } in
    flush_counted g.I.Image.view g.I.Image.honest g.I.Image.made g.met.I.Image.whole g.met.I.Image.meets asks laws
    c.a_die_leaves_only_with_a_fault.ensures die task bytes Done old new w of_old apart call fair c.no_older_sync_answers_a_flush.ensures
    flushes refl live alive before after was is
