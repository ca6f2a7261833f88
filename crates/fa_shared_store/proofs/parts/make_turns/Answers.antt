use Rattle.fa_shared_request.proofs.PartTallies.{parts_ended, parts_further, parts_nowhere}
use Rattle.fa_shared_store.proofs.parts.make_turns.Goals as goal
use Rattle.fa_shared_store.proofs.parts.make_turns.Goals.{in-None, in-Some+then-not-matches}

pub loop-preserved : goal.loop-preserved
loop-preserved g c =
    parts_further _ _ _ _ _ _ c.loop.invariant
    (parts_further _ _ _ _ _ _ c.turn_all.ensures
    (parts_nowhere _ _ _ c.pass_time-guard.ensures.commits c.pass_time-guard.ensures.number))

pub returns : goal.returns
returns g c =
    elim c.match-next.branch [
      | in-None w ↦
          parts_ended _ _ _ _ _ _ _ c.loop.invariant w.seat-is w.parts-is c.release.ensures.commits c.release.ensures.number
      | in-Some+then-not-matches w ↦
          parts_ended _ _ _ _ _ _ _ (parts_further _ _ _ _ _ _ c.loop.invariant w.turn_all.ensures) w.seat-is w.parts-is
          c.release.ensures.commits c.release.ensures.number
    ]
