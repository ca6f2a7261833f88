use Rattle.std.proofs.Common.{refl}
use Rattle.fa_solo_laws.proofs.Flushed.{SyncLaws, asked_run, has_flushed}
use Rattle.fa_solo_laws.proofs.Going.{Laws}
use Rattle.fa_solo_laws.proofs.request_flushes.a_flush_has_synced.Goals as goal

pub returns : goal.returns
returns g c =
    let laws : Laws = record {
      lives = c.live_dies_are_kept.ensures;
      spares = c.spares_are_kept.ensures;
      numbers = c.numbers_are_kept.ensures;
      geometry = c.the_geometry_is_kept.ensures;
      falls = c.the_last_number_never_falls.ensures;
    } in
    let syncs : SyncLaws = record {
      synced = c.synced_rises_by_a_sync.ensures;
      jobs = c.a_sync_is_of_its_take.ensures;
      flushes = c.flushes_are_counted.ensures;
      none_older = c.no_older_sync_answers_a_flush.ensures;
    } in
    record {
      run = λ t seat bytes before after turns asked. asked_run g.row.A.Denot t seat bytes before turns after asked;
      synced = λ t seat die bytes before after turns reached begun flushes asked ended.
          has_flushed g.row.A.Denot laws syncs t seat bytes before.world reached flushes before turns after refl begun asked ended die;
    }
