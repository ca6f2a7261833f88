use Rattle.std.proofs.Common.{sym}
use Rattle.fa_laws.proofs.Syncs.{synced_by_syncs}
use Rattle.fa_laws.proofs.promises.a_flush_is_synced_by_syncs.Goals as goal

pub returns : goal.returns
returns c w begun_then last after flush happenings die reached begins run answered was alive =
    synced_by_syncs c.live_dies_are_kept.ensures c.the_geometry_is_kept.ensures c.synced_rises_by_a_sync.ensures c.a_sync_is_of_its_take.ensures
    c.flushes_are_counted.ensures w begun_then last flush happenings die reached begins run
    (c.no_older_sync_answers_a_flush.ensures last.core flush (sym answered.step.does.0)) was alive
