use Rattle.fa_solo_laws.proofs.Going.{Laws}
use Rattle.fa_solo_laws.proofs.Chained.{session_meets, session_seen}
use Rattle.fa_solo_laws.proofs.sessions.a_session_of_the_store_meets.Goals as goal

pub returns : goal.returns
returns g c =
    let laws : Laws = record {
      lives = c.live_dies_are_kept.ensures;
      spares = c.spares_are_kept.ensures;
      numbers = c.numbers_are_kept.ensures;
      geometry = c.the_geometry_is_kept.ensures;
      falls = c.the_last_number_never_falls.ensures;
    } in record {
      meets = λ old new export streams end w store session fair.
          session_meets g.I.Image.view g.I.Image.honest g.I.Image.made g.met.I.Image.whole g.met.I.Image.meets
          (record { asks = laws; flushes = c.flushes_are_counted.ensures; rounds = c.the_round_is_kept.ensures })
          (record {
            serves = c.a_request_serves.ensures.serves;
            meets = c.a_request_serves.ensures.meets;
            reached = c.a_request_serves.ensures.reached;
          }) export streams old new end w store session fair;
      seen = λ seen is old new export size streams end session. session_seen _ g.S.Blocks.made seen g.I.Image.made is export size streams old new end session;
    }
